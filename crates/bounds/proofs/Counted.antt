-- How often a place stands in a list, and that a place moved beside another stands once.
use Rattle.std.proofs.Common.{◌≡◌, ℕ, ◌+◌, ◌≤◌, Bool, true, false, cond, eqb, ◌≢◌, List, [], ◌∷◌, ◌++◌, count_by, sym, refl, ap, subst, inl, inr, arith}
use Rattle.std.specs.List.{AllByRecursion}
use Rattle.std.proofs.lemmas.List.Sums.{sum_by-cons, sum_by-append}
use Rattle.std.proofs.lemmas.Bool.{eqb-true, eq-eqb, ne_eqb, cases_eq}
use Rattle.rules.specs.Carry.{beside, inserted}
use Rattle.bounds.specs.Member.{Member, Once}

abbrev counted_one : Bool → ℕ
counted_one b = cond b 1 0

-- one if x is y
abbrev is_one : ℕ → ℕ → ℕ
is_one x y = counted_one (eqb y x)

abbrev count : ℕ → List ℕ → ℕ
count x ys = count_by (λ y. eqb y x) ys

count_cons : (x y : ℕ) (ys : List ℕ) → count x (y ∷ ys) ≡ is_one x y + count x ys
count_cons x y ys = sum_by-cons (is_one x) y ys

count_append : (x : ℕ) (ys zs : List ℕ) → count x (ys ++ zs) ≡ count x ys + count x zs
count_append x ys zs = sum_by-append (is_one x) ys zs

count_none : (x : ℕ) (ys : List ℕ) → (Member x ys → ⊥) → count x ys ≡ 0
count_none x [] n = refl
count_none x (y ∷ ys) n =
    omega (arith, count_cons x y ys, ap counted_one (ne_eqb y x (λ e. n (inl (sym e)))), count_none x ys (λ m. n (inr m)))

-- a place that others do not equal is not counted among them
count_others : (x : ℕ) (ys : List ℕ) → AllByRecursion (λ y. y ≢ x) ys → count x ys ≡ 0
count_others x [] h = refl
count_others x (y ∷ ys) h = omega (arith, count_cons x y ys, ap counted_one (ne_eqb y x h.0), count_others x ys h.1)

count_once : (x : ℕ) (ys : List ℕ) → Once ys → count x ys ≤ 1
count_once x [] o = omega arith
count_once x (y ∷ ys) o =
    elim (cases_eq y x) [
      | inl e ↦ omega (arith, count_cons x y ys, counted_most (eqb y x), count_others x ys (subst (λ z. AllByRecursion (λ v. v ≢ z) ys) e o.0))
      | inr n ↦ omega (arith, count_cons x y ys, ap counted_one (ne_eqb y x n), count_once x ys o.1)
    ]
  where
    counted_most : (b : Bool) → counted_one b ≤ 1
    counted_most true = omega arith
    counted_most false = omega arith

others : (x : ℕ) (ys : List ℕ) → count x ys ≡ 0 → AllByRecursion (λ y. y ≢ x) ys
others x [] e = tt
others x (y ∷ ys) e = (here, others x ys (omega (arith, count_cons x y ys, e)))
  where
    here : y ≢ x
    here z = omega (arith, count_cons x y ys, e, ap counted_one (eq-eqb y x z))

once_counted : (ys : List ℕ) → ((x : ℕ) → count x ys ≤ 1) → Once ys
once_counted [] h = tt
once_counted (y ∷ ys) h =
    (others y ys (omega (arith, h y, count_cons y y ys, ap counted_one (eq-eqb y y refl))), once_counted ys (λ x. omega (arith, h x, count_cons x y ys)))

-- each place once, and c once more at the place that it goes beside
count_beside : (over : Bool) (c by p x : ℕ) → count x (beside over c by p) ≡ is_one x p + cond (eqb p by) (is_one x c) 0
count_beside over c by p x = go over (eqb p by)
  where
    go : (o b : Bool) → count x (cond b (cond o (p ∷ c ∷ []) (c ∷ p ∷ [])) (p ∷ [])) ≡ is_one x p + cond b (is_one x c) 0
    go true true = omega (arith, count_cons x p (c ∷ []), count_cons x c [])
    go true false = omega (arith, count_cons x p [])
    go false true = omega (arith, count_cons x c (p ∷ []), count_cons x p [])
    go false false = omega (arith, count_cons x p [])

count_inserted : (over : Bool) (c by : ℕ) (ps : List ℕ) (x : ℕ) → count x (inserted over c by ps) ≡ count x ps + cond (eqb c x) (count by ps) 0
count_inserted over c by [] x = omega (arith, at_none (eqb c x))
  where
    at_none : (b : Bool) → cond b (count by []) 0 ≡ 0
    at_none true = refl
    at_none false = refl
count_inserted over c by (p ∷ ps) x =
    let apart = count_append x (beside over c by p) (inserted over c by ps) in
    let first = count_beside over c by p x in
    let rest = count_inserted over c by ps x in
    let by_here = ap (λ n. cond (eqb c x) n 0) (count_cons by p ps) in
    omega (arith, apart, first, rest, count_cons x p ps, by_here, moved (eqb c x) (eqb p by))
  where
    moved : (b d : Bool) → cond b (cond d 1 0 + count by ps) 0 ≡ cond d (cond b 1 0) 0 + cond b (count by ps) 0
    moved true true = refl
    moved true false = omega arith
    moved false true = refl
    moved false false = refl

pub inserted_once : (over : Bool) (c by : ℕ) (ps : List ℕ) → Once ps → (Member c ps → ⊥) → Once (inserted over c by ps)
inserted_once over c by ps o n = once_counted (inserted over c by ps) (λ x. most x (eqb c x) refl)
  where
    most : (x : ℕ) (b : Bool) → eqb c x ≡ b → count x (inserted over c by ps) ≤ 1
    most x true e =
        let none : count x ps ≡ 0 = subst (λ y. count y ps ≡ 0) (eqb-true c x e) (count_none c ps n) in
        omega (arith, count_inserted over c by ps x, none, ap (λ b. cond b (count by ps) 0) e, count_once by ps o)
    most x false e = omega (arith, count_inserted over c by ps x, ap (λ b. cond b (count by ps) 0) e, count_once x ps o)
