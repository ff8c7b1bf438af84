-- How the steps of a list that appends join.
use Rattle.std.proofs.Common.{◌≡◌, ℕ, suc, ◌+◌, ◌-◌, ◌≤◌, min, List, [], ◌∷◌, ◌++◌, length, drop, set, sym, refl, ap, ◌∙◌, ⊎_elim, add-zero, zero-add, arith, length-append}
use lib.Seq.{sets, sets-eq, length-sets}
use Rattle.std.proofs.lemmas.List.{set_past}
use Rattle.std.proofs.lemmas.Bool.{cases_lt}
use Rattle.list.specs.declared.appender.Appender.{Appender}
use Rattle.list.specs.Appended.{Appended}
use Rattle.list.specs.Written.{written}

module _ {T : Type 0} where
  pub sets_append : (vs l : List T) (i : ℕ) (ws : List T) → sets l i (vs ++ ws) ≡ sets (sets l i vs) (i + length vs) ws
  sets_append [] l i ws = rw (add-zero i)
  sets_append (a ∷ vs) l i ws =
      let e : i + suc (length vs) ≡ suc i + length vs = omega arith in
      sets_append vs (set l i a) (suc i) ws ∙ ap (λ (k : ℕ). sets (sets (set l i a) (suc i) vs) k ws) (sym e)

  -- the places stay as many
  pub appended_length : (a b : Appender T) (xs : List T) → Appended a b xs → length b.places.now ≡ length a.places.now
  appended_length a b xs p = ap length p.places ∙ length-sets a.places.now a.count xs

  pub appended_none : (a : Appender T) → Appended a a []
  appended_none a = record { count = omega arith; places = refl; lender = refl }

  -- writing past the end changes nothing
  sets_past : (vs l : List T) (i : ℕ) → length l ≤ i → sets l i vs ≡ l
  sets_past [] l i h = refl
  sets_past (v ∷ vs) l i h =
      ap (λ (m : List T). sets m (suc i) vs) (set_past l i v h) ∙ sets_past vs l (suc i) (omega arith)

  -- a second write goes on where the first one ended, or both have passed the end
  sets_then : (l : List T) (i j : ℕ) (xs ys : List T) → j ≡ i + min (length xs) (length l - i) → sets (sets l i xs) j ys ≡ sets l i (xs ++ ys)
  sets_then l i j xs ys e =
      ⊎_elim (λ fits. ap (λ (k : ℕ). sets (sets l i xs) k ys) (omega arith) ∙ sym (sets_append xs l i ys))
      (λ over. let long = length-sets l i xs in sets_past ys (sets l i xs) j (omega arith) ∙ sym (sets_past ys (sets l i xs) (i + length xs) (omega arith)) ∙ sym (sets_append xs l i ys))
      (cases_lt (length xs) (length l - i))

  pub appended_then : (a b c : Appender T) (xs ys : List T) → Appended a b xs → Appended b c ys → Appended a c (xs ++ ys)
  appended_then a b c xs ys p q =
      let same = appended_length a b xs p in
      record {
        count = simp length-append (omega (arith, p.count, q.count));
        places =
            q.places
            ∙ ap (λ (l : List T). sets l b.count ys) p.places
            ∙ sets_then a.places.now a.count b.count xs ys p.count;
        lender = q.lender ∙ p.lender;
      }

  -- what a lender finds where the list began empty and its places sufficed
  pub appended_all : (a b : Appender T) (xs : List T) → Appended a b xs → a.count ≡ 0 → length xs ≤ length a.places.now → (b.places.now ≡ written a.places.now xs) × (b.count ≡ length xs)
  appended_all a b xs p z h = (
    p.places
        ∙ ap (λ (k : ℕ). sets a.places.now k xs) z
        ∙ sets-eq xs a.places.now 0 (rw zero-add h)
        ∙ ap (λ (k : ℕ). xs ++ drop k a.places.now) (zero-add (length xs)),
    omega (arith, p.count),
  )
