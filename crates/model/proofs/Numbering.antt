-- A request that an opcode and arguments make is, in numbers, what was asked.
use Rattle.std.proofs.Common.{◌≡◌, ℕ, ◌^◌, ◌<◌, true, false, cond, eqb, List, map, length, get_or, Ok, Result, sym, refl, ap, ◌∙◌, ⊎_elim}
use Rattle.std.specs.List.{range_with_len}
use Rattle.std.proofs.lemmas.List.FromFn.{fill_by_all}
use Rattle.std.proofs.lemmas.Bool.{cases_Bool, eqb-true}
use Rattle.model.specs.declared.fault.Fault.{Fault}
use Rattle.model.specs.declared.interface.Interface.{Interface}
use Rattle.model.specs.declared.interface.Interface.TheVariants.{Display, Compositor, Subcompositor, Surface, Subsurface, Buffer, Callback}
use Rattle.model.specs.declared.request.Request.{Request}
use Rattle.model.specs.Word.{int_word}
use Rattle.model.specs.Request.{exactly, fitting, optional_id, int_at, compositor_request, subcompositor_request, surface_request, subsurface_request, buffer_request, request_of}
use Rattle.model.specs.Asked.{NumberedRequest, numbered, id_word, numbers, in_numbers, asked}
use Rattle.model.proofs.Words.{int_word_int}

-- the word of an id or none is the one that it was read from
named_back : (w : ℕ) → id_word (optional_id w) ≡ w
named_back w =
    ⊎_elim
    (λ (t : eqb w 0 ≡ true). rw t (sym (eqb-true w 0 t)))
    (λ (f : eqb w 0 ≡ false). rw f refl)
    (cases_Bool (eqb w 0))

module _ (args : List ℕ) where
  -- n arguments are the first n of them, written out where n is a numeral
  written_out : (n : ℕ) → length args ≡ n → map (λ k. get_or args k 0) (range_with_len 0 n) ≡ args
  written_out n long = sym (fill_by_all (λ k. get_or args k 0) args n 0 long (λ k h. refl))

  -- one entry of an interface's opcodes, and those that follow it
  entry : (o k n : ℕ) (i : Interface) (r : Request) (rest : Result Request Fault) (rest' : Result NumberedRequest Fault) → (length args ≡ n → numbers r ≡ numbered i k args) → in_numbers rest ≡ rest' → in_numbers (cond (eqb o k) (fitting (exactly n args) r) rest) ≡ cond (eqb o k) (fitting (exactly n args) (numbered i o args)) rest'
  entry o k n i r rest rest' same after =
      ⊎_elim
      (λ (t : eqb o k ≡ true).
      ⊎_elim
      (λ (u : exactly n args ≡ true). rw (t, u) (ap Ok (same (eqb-true (length args) n u) ∙ ap (λ q. numbered i q args) (sym (eqb-true o k t)))))
      (λ (u : exactly n args ≡ false). rw (t, u))
      (cases_Bool (exactly n args)))
      (λ (f : eqb o k ≡ false). rw f after)
      (cases_Bool (eqb o k))

  -- the arguments of a request without signed numbers
  plain : (i : Interface) (k n : ℕ) → length args ≡ n → numbered i k (map (λ j. get_or args j 0) (range_with_len 0 n)) ≡ numbered i k args
  plain i k n long = ap (numbered i k) (written_out n long)

  compositor_asked : (o : ℕ) → in_numbers (compositor_request o args) ≡ asked Compositor o args
  compositor_asked o = entry o 0 1 Compositor _ _ _ (plain Compositor 0 1) refl

  subcompositor_asked : (o : ℕ) → in_numbers (subcompositor_request o args) ≡ asked Subcompositor o args
  subcompositor_asked o = entry o 1 3 Subcompositor _ _ _ (plain Subcompositor 1 3) refl

  buffer_asked : (o : ℕ) → in_numbers (buffer_request o args) ≡ asked Buffer o args
  buffer_asked o = entry o 0 0 Buffer _ _ _ (plain Buffer 0 0) refl

  module _ (back : (k : ℕ) → int_word (int_at args k) ≡ get_or args k 0) where
    surface_asked : (o : ℕ) → in_numbers (surface_request o args) ≡ asked Surface o args
    surface_asked o =
        entry o 0 0 Surface _ _ _ (plain Surface 0 0)
        (entry o 1 3 Surface _ _ _ (λ long. rw (named_back (get_or args 0 0), back 1, back 2) (plain Surface 1 3 long))
        (entry o 2 4 Surface _ _ _ (λ long. rw (back 0, back 1, back 2, back 3) (plain Surface 2 4 long))
        (entry o 3 1 Surface _ _ _ (plain Surface 3 1)
        (entry o 6 0 Surface _ _ _ (plain Surface 6 0) refl))))

    subsurface_asked : (o : ℕ) → in_numbers (subsurface_request o args) ≡ asked Subsurface o args
    subsurface_asked o =
        entry o 0 0 Subsurface _ _ _ (plain Subsurface 0 0)
        (entry o 1 2 Subsurface _ _ _ (λ long. rw (back 0, back 1) (plain Subsurface 1 2 long))
        (entry o 2 1 Subsurface _ _ _ (plain Subsurface 2 1)
        (entry o 3 1 Subsurface _ _ _ (plain Subsurface 3 1)
        (entry o 4 0 Subsurface _ _ _ (plain Subsurface 4 0)
        (entry o 5 0 Subsurface _ _ _ (plain Subsurface 5 0) refl)))))

    any_asked : (i : Interface) (o : ℕ) → in_numbers (request_of i o args) ≡ asked i o args
    any_asked Display o = refl
    any_asked Compositor o = compositor_asked o
    any_asked Subcompositor o = subcompositor_asked o
    any_asked Surface o = surface_asked o
    any_asked Subsurface o = subsurface_asked o
    any_asked Buffer o = buffer_asked o
    any_asked Callback o = refl

-- of arguments that are words
pub request_asked : (args : List ℕ) → ((k : ℕ) → get_or args k 0 < 2 ^ 32) → (i : Interface) (o : ℕ) → in_numbers (request_of i o args) ≡ asked i o args
request_asked args below = any_asked args (λ k. int_word_int (get_or args k 0) (below k))
