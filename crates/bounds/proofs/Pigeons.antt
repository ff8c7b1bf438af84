-- Numbers below n of which none stands twice are at most n.
use Rattle.std.proofs.Common.{◌≡◌, ℕ, ◌<◌, ◌≤◌, Bool, true, false, true≢false, sym, subst, eqb, ◌≢◌, List, [], ◌∷◌, ◌++◌, length, filter, inl, inr}
use Rattle.std.specs.List.{AllByRecursion}
use Rattle.std.specs.List.{IsDistinct, list_any}
use Rattle.std.proofs.lemmas.Map.Steps.{length-le_from_distinct_below}
use Rattle.bounds.specs.Member.{Member, Once}
use Rattle.std.proofs.ByRecursion.{all_kept_by, All-push, All-weaker}
use Rattle.std.proofs.lemmas.Bool.{or_cases, eqb-true, ne_eqb, cond_both}

pub once_kept : (test : ℕ → Bool) (xs : List ℕ) → Once xs → Once (filter test xs)
once_kept test [] o = tt
once_kept test (x ∷ xs) o =
    let rest = once_kept test xs o.1 in
    cond_both (test x) (x ∷ filter test xs) (filter test xs) Once (λ _. (all_kept_by test (λ y. y ≢ x) xs o.0, rest)) (λ _. rest)

-- one more that is not there
pub once_added : (xs : List ℕ) (x : ℕ) → Once xs → (Member x xs → ⊥) → Once (xs ++ x ∷ [])
once_added [] x o n = (tt, tt)
once_added (y ∷ xs) x o n = (All-push (λ z. z ≢ y) xs x o.0 (λ e. n (inl e)), once_added xs x o.1 (λ m. n (inr m)))

distinct : (xs : List ℕ) → Once xs → IsDistinct eqb xs
unfolding IsDistinct
distinct [] o = tt
distinct (x ∷ xs) o = (All-weaker (λ y. y ≢ x) (λ y. eqb x y ≡ false) (λ y n. ne_eqb x y (λ e. n (sym e))) xs o.0, distinct xs o.1)

member_below : (n : ℕ) (xs : List ℕ) → AllByRecursion (λ x. x < n) xs → (q : ℕ) → list_any (eqb q) xs ≡ true → q < n
member_below n [] h q e = absurd (true≢false (sym e))
member_below n (x ∷ xs) h q e =
    elim (or_cases (eqb q x) (list_any (eqb q) xs) e) [ inl z ↦ subst (λ y. y < n) (sym (eqb-true q x z)) h.0 | inr z ↦ member_below n xs h.1 q z ]

pub pigeons : (n : ℕ) (xs : List ℕ) → Once xs → AllByRecursion (λ x. x < n) xs → length xs ≤ n
pigeons n xs o h = length-le_from_distinct_below xs n (distinct xs o) (member_below n xs h)
