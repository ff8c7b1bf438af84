-- The spans of buffer records: what keeps them inside the pixel memory and apart.
use Rattle.std.proofs.Common.{◌≡◌, ℕ, zero, suc, ◌+◌, ◌≤◌, Bool, false, not, ◌&&◌, ltb, ◌≢◌, ◌⊎◌, List, [], ◌∷◌, get_or, set, replicate, is_none, Some, None, Option, option_map, option_and_then, sym, refl, ap, ◌∙◌, subst, inl, inr, arith}
use Rattle.std.specs.List.{list_any}
use Rattle.std.proofs.lemmas.Bool.{cond_both, or_parts, and_cases, ltb-false}
use Rattle.std.proofs.lemmas.Option.{none-some, same_Some}
use Rattle.rules.specs.declared.buffer.Buffer.{Buffer}
use Rattle.rules.specs.State.{Model}
use Rattle.rules.specs.Table.{records, changed}
use Rattle.rules.specs.Hold.{busy, kept, sweep}
use Rattle.rules.specs.Carry.{nameless}
use Rattle.rules.specs.Call.{overlap, misplaced}
use Rattle.bounds.specs.Sound.{span_length, Spans}
use Rattle.bounds.proofs.Tables.{put_related, put_cases, each_related, replicated}

-- a record that is there now was there before, with the same span
pub record Was (o : Option Buffer) (g : Buffer) : Type 0 where
  old : Buffer
  there : o ≡ Some old
  first : g.first ≡ old.first
  span : span_length g ≡ span_length old

-- a place whose record goes, or keeps its span
abbrev pub Shrinks : Option Buffer → Option Buffer → Type 0
Shrinks o n = (g : Buffer) → n ≡ Some g → Was o g

shrinks_same : (o : Option Buffer) → Shrinks o o
shrinks_same o g e = record { old = g; there = e; first = refl; span = refl }

shrinks_none : (o : Option Buffer) → Shrinks o None
shrinks_none o g e = absurd (none-some g e)

module _ (size : ℕ) (bs cs : List (Option Buffer)) (h : (b : ℕ) → Shrinks (get_or bs b None) (get_or cs b None)) (a : Spans size bs) where
  pub spans_shrunk : Spans size cs
  spans_shrunk =
      record {
        inside = λ b g e. let w = h b g e in let k = a.inside b w.old w.there in omega (arith, w.first, w.span, k);
        apart = λ x y f g n d e.
            let v = h x f d in
            let w = h y g e in
            elim (a.apart x y v.old w.old n v.there w.there) [
              | inl k ↦ inl (omega (arith, v.first, v.span, w.first, k))
              | inr k ↦ inr (omega (arith, w.first, w.span, v.first, k))
            ];
      }

nameless_shrinks : (o : Option Buffer) → Shrinks o (option_map nameless o)
nameless_shrinks None = shrinks_none None
nameless_shrinks (Some f) = λ g e. let z = sym (same_Some (nameless f) g e) in record { old = f; there = refl; first = ap (λ (b : Buffer). b.first) z; span = ap span_length z }

pub spans_nameless : (size : ℕ) (bs : List (Option Buffer)) (b : ℕ) → Spans size bs → Spans size (changed b nameless bs)
spans_nameless size bs b a =
    spans_shrunk size bs (changed b nameless bs)
    (put_related None Shrinks shrinks_same bs b (option_map nameless (get_or bs b None)) (nameless_shrinks (get_or bs b None))) a

kept_shrinks : (m : Model) (b : ℕ) (o : Option Buffer) → Shrinks o (option_and_then (kept m b) o)
kept_shrinks m b None = shrinks_none None
kept_shrinks m b (Some f) =
    cond_both (is_none f.id && not (busy m b)) None (Some f) (Shrinks (Some f)) (λ _. shrinks_none (Some f)) (λ _. shrinks_same (Some f))

pub spans_swept : (m : Model) → Spans m.size m.buffers → Spans m.size (sweep m).buffers
spans_swept m a =
    spans_shrunk m.size m.buffers (sweep m).buffers (each_related None Shrinks (shrinks_none None) (λ b. option_and_then (kept m b)) (kept_shrinks m) 0 m.buffers) a

any_none : {A : Type 0} (test : A → Bool) (t : List (Option A)) → list_any test (records t) ≡ false → (k : ℕ) (x : A) → get_or t k None ≡ Some x → test x ≡ false
any_none test [] e k x h = absurd (none-some x h)
any_none test (None ∷ t) e zero x h = absurd (none-some x h)
any_none test (None ∷ t) e (suc k) x h = any_none test t e k x h
any_none test (Some y ∷ t) e zero x h = subst (λ z. test z ≡ false) (same_Some y x h) (or_parts (test y) (list_any test (records t)) e).0
any_none test (Some y ∷ t) e (suc k) x h = any_none test t (or_parts (test y) (list_any test (records t)) e).1 k x h

abbrev Clear : Buffer → Buffer → Type 0
Clear f g = (f.first + span_length f ≤ g.first) ⊎ (g.first + span_length g ≤ f.first)

turned : (f g : Buffer) → Clear f g → Clear g f
turned f g (inl h) = inr h
turned f g (inr h) = inl h

-- two spans that do not meet
apart_from : (a b : Buffer) → overlap a b ≡ false → Clear b a
apart_from a b e =
    elim (and_cases (ltb a.first (b.first + span_length b)) (ltb b.first (a.first + span_length a)) e) [
      | inl y ↦ inl (ltb-false _ _ y)
      | inr y ↦ inr (ltb-false _ _ y)
    ]

-- a new record, whose span meets none
module _ (m : Model) (b : ℕ) (new : Buffer) (a : Spans m.size m.buffers) (e : misplaced m new ≡ false) where
  parts : (ltb m.size (new.first + span_length new) ≡ false) × (list_any (overlap new) (records m.buffers) ≡ false)
  parts = or_parts (ltb m.size (new.first + span_length new)) (list_any (overlap new) (records m.buffers)) e

  within : new.first + span_length new ≤ m.size
  within = ltb-false _ _ parts.0

  away : (x : ℕ) (g : Buffer) → get_or m.buffers x None ≡ Some g → Clear g new
  away x g h = apart_from new g (any_none (overlap new) m.buffers parts.1 x g h)

  -- a place holds the new record, or what it held
  abbrev Now : ℕ → Option Buffer → Type 0
  Now x o = ((x ≡ b) × (o ≡ Some new)) ⊎ (o ≡ get_or m.buffers x None)

  same_new : (o : Option Buffer) (f : Buffer) → o ≡ Some new → o ≡ Some f → new ≡ f
  same_new o f z u = same_Some new f (sym z ∙ u)

  inside_added : (x : ℕ) (o : Option Buffer) (f : Buffer) → Now x o → o ≡ Some f → f.first + span_length f ≤ m.size
  inside_added x o f (inl z) u = subst (λ (v : Buffer). v.first + span_length v ≤ m.size) (same_new o f z.1 u) within
  inside_added x o f (inr z) u = a.inside x f (sym z ∙ u)

  apart_added : (x y : ℕ) (o p : Option Buffer) (f g : Buffer) → x ≢ y → Now x o → Now y p → o ≡ Some f → p ≡ Some g → Clear f g
  apart_added x y o p f g n (inl z) (inl w) u v = absurd (n (z.0 ∙ sym w.0))
  apart_added x y o p f g n (inl z) (inr w) u v = subst (λ (h : Buffer). Clear h g) (same_new o f z.1 u) (turned g new (away y g (sym w ∙ v)))
  apart_added x y o p f g n (inr z) (inl w) u v = subst (λ (h : Buffer). Clear f h) (same_new p g w.1 v) (away x f (sym z ∙ u))
  apart_added x y o p f g n (inr z) (inr w) u v = a.apart x y f g n (sym z ∙ u) (sym w ∙ v)

  pub spans_added : Spans m.size (set m.buffers b (Some new))
  spans_added =
      let cs = set m.buffers b (Some new) in
      record {
        inside = λ x f. inside_added x (get_or cs x None) f (put_cases None m.buffers b (Some new) x);
        apart = λ x y f g n. apart_added x y (get_or cs x None) (get_or cs y None) f g n (put_cases None m.buffers b (Some new) x) (put_cases None m.buffers b (Some new) y);
      }

pub no_spans : (size n : ℕ) → Spans size (replicate n None)
no_spans size n =
    let free : (b : ℕ) (f : Buffer) → get_or (replicate n None) b None ≡ Some f → ⊥ = λ b f e. none-some f (sym (replicated None n b) ∙ e) in
    record { inside = λ b f e. absurd (free b f e); apart = λ x y f g n d e. absurd (free x f d) }
