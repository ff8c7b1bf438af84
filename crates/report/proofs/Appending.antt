-- One text after another, appended to an output.
use Rattle.std.proofs.Common.{◌≡◌, ℕ, ◌+◌, ◌≤◌, true, false, cond, List, [], ◌∷◌, ◌++◌, length, take, is_ok, is_err, Ok, Err, Result, sym, refl, ap, ◌∙◌, ap₂, arith}
use Rattle.std.specs.List.{range_with_len, flat_map}
use Rattle.std.proofs.lemmas.List.{append_assoc, take_at, take-take, flat_map_more, map-id, length-append}
use Rattle.std.proofs.lemmas.List.FromFn.{map-range_with_len_more}
use Rattle.report.specs.Output.{Appends}

-- one text and then another are the two joined; where the second found no memory, what was there before the first is still the front
pub then_appends : {E : Type 0} (r : Result (Unit {0}) E) (before a middle b after : List ℕ) → middle ≡ before ++ a → Appends r middle b after → Appends r before (a ++ b) after
then_appends (Ok x) before a middle b after e h = h ∙ ap (λ s. s ++ b) e ∙ append_assoc before a b
then_appends (Err x) before a middle b after e h =
    let long : length before ≤ length middle = omega (arith, simp length-append at (ap length e)) in
    sym (take-take (length before) (length middle) after long) ∙ ap (take (length before)) (h ∙ e) ∙ take_at before a _ refl

-- a call of `extend_from_slice` that found no memory, after an earlier text, and the error s that is handed on
pub stops : {E F : Type 0} (r : Result (Unit {0}) E) (s : Result (Unit {0}) F) (before text middle more after all : List ℕ) → middle ≡ before ++ text → after ≡ cond (is_ok r) more middle
    → is_ok r ≡ false → is_err s ≡ true → Appends s before all after
stops r (Ok x) before text middle more after all e f failed err = absurd cc
stops r (Err x) before text middle more after all e f failed err =
    let same : after ≡ middle = f ∙ ap (λ ok. cond ok more middle) failed in
    ap (take (length before)) (same ∙ e) ∙ take_at before text _ refl

-- one turn of a loop that appends the text of each item, here word: ys are the items xs and then x
pub one_more : {X : Type 0} (text : X → List ℕ) (before out word after : List ℕ) (xs ys : List X) (x : X) → ys ≡ xs ++ x ∷ [] → word ≡ text x → out ≡ before ++ flat_map text xs
    → after ≡ out ++ word → after ≡ before ++ flat_map text ys
one_more text before out word after xs ys x push is so_far this =
    this ∙ ap₂ (λ o w. o ++ w) so_far is ∙ flat_map_more text before xs x ∙ ap (λ zs. before ++ flat_map text zs) (sym push)

pub counting_more : (n : ℕ) → range_with_len 0 (n + 1) ≡ range_with_len 0 n ++ n ∷ []
counting_more n = sym (map-id (range_with_len 0 (n + 1))) ∙ map-range_with_len_more (λ k. k) 0 n n (omega arith) ∙ ap (λ ks. ks ++ n ∷ []) (map-id (range_with_len 0 n))
