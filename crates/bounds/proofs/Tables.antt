-- Tables with one place written, or every place changed.
use Rattle.std.proofs.Common.{◌≡◌, ℕ, zero, suc, ◌+◌, ◌<◌, ◌≤◌, Bool, true, false, cond, not, eqb, ◌≢◌, ◌⊎◌, List, [], ◌∷◌, ◌++◌, length, get_or, set, replicate, Some, None, sum_by, sym, refl, ap, ◌∙◌, inl, inr, arith, Option, unwrap_or, map, get_or-set_other, option_map}
use Rattle.std.proofs.lemmas.List.Sums.{sum_by-cons}
use Rattle.std.proofs.lemmas.Bool.{eqb-false, cond_both, not-true}
use Rattle.list.specs.Place.{place_from}
use Rattle.rules.specs.Table.{each_from, without, record_at, changed, records}
use Rattle.bounds.specs.Member.{Member}
use Rattle.std.proofs.lemmas.Option.{none-some}

module _ {A : Type 0} (d : A) where
  -- a write changes one place, by a relation that each record has to itself
  pub put_related : (R : A → A → Type 0) → ((a : A) → R a a) → (t : List A) (p : ℕ) (a : A) → R (get_or t p d) a → (q : ℕ) → R (get_or t q d) (get_or (set t p a) q d)
  put_related R same [] p a h q = same d
  put_related R same (x ∷ t) zero a h zero = h
  put_related R same (x ∷ t) zero a h (suc q) = same (get_or t q d)
  put_related R same (x ∷ t) (suc p) a h zero = same x
  put_related R same (x ∷ t) (suc p) a h (suc q) = put_related R same t p a h q

  -- a place after a write: what was written, or what was there
  pub put_cases : (t : List A) (p : ℕ) (a : A) (q : ℕ) → ((q ≡ p) × (get_or (set t p a) q d ≡ a)) ⊎ (get_or (set t p a) q d ≡ get_or t q d)
  put_cases [] p a q = inr refl
  put_cases (x ∷ t) zero a zero = inl (refl, refl)
  put_cases (x ∷ t) zero a (suc q) = inr refl
  put_cases (x ∷ t) (suc p) a zero = inr refl
  put_cases (x ∷ t) (suc p) a (suc q) = elim (put_cases t p a q) [ inl h ↦ inl (ap suc h.0, h.1) | inr h ↦ inr h ]

  -- a place after its record was changed: what it became, or what was there
  pub changed_cases : (t : List (Option A)) (p : ℕ) (f : A → A) (q : ℕ)
      → ((q ≡ p) × (record_at d (changed p f t) q ≡ f (record_at d t q))) ⊎ (record_at d (changed p f t) q ≡ record_at d t q)
  changed_cases [] p f q = inr refl
  changed_cases (None ∷ t) zero f zero = inr refl
  changed_cases (Some x ∷ t) zero f zero = inl (refl, refl)
  changed_cases (o ∷ t) zero f (suc q) = inr refl
  changed_cases (o ∷ t) (suc p) f zero = inr refl
  changed_cases (o ∷ t) (suc p) f (suc q) = elim (changed_cases t p f q) [ inl h ↦ inl (ap suc h.0, h.1) | inr h ↦ inr h ]

  -- a change alters one place, by a relation that each record has to itself
  pub changed_related : (R : A → A → Type 0) → ((a : A) → R a a) → (t : List (Option A)) (p : ℕ) (f : A → A) → R (record_at d t p) (f (record_at d t p)) → (q : ℕ) → R (record_at d t q) (record_at d (changed p f t) q)
  changed_related R same [] p f h q = same d
  changed_related R same (None ∷ t) zero f h zero = same d
  changed_related R same (Some x ∷ t) zero f h zero = h
  changed_related R same (o ∷ t) zero f h (suc q) = same (record_at d t q)
  changed_related R same (o ∷ t) (suc p) f h zero = same (unwrap_or o d)
  changed_related R same (o ∷ t) (suc p) f h (suc q) = changed_related R same t p f h q

  -- what is read at a place whose record was changed, where the place may be free
  pub changed_here : (P : A → Type 0) (t : List (Option A)) (p : ℕ) (f : A → A) → ((a : A) → P (f a)) → P d → P (record_at d (changed p f t) p)
  changed_here P [] p f h k = k
  changed_here P (None ∷ t) zero f h k = k
  changed_here P (Some x ∷ t) zero f h k = h x
  changed_here P (o ∷ t) (suc p) f h k = changed_here P t p f h k

  -- and where it is not
  pub changed_same : (t : List (Option A)) (p : ℕ) (f : A → A) (a : A) → get_or t p None ≡ Some a → record_at d (changed p f t) p ≡ f (record_at d t p)
  changed_same [] p f a e = absurd (none-some a e)
  changed_same (None ∷ t) zero f a e = absurd (none-some a e)
  changed_same (Some x ∷ t) zero f a e = refl
  changed_same (o ∷ t) (suc p) f a e = changed_same t p f a e

  pub changed_other : (t : List (Option A)) (p : ℕ) (f : A → A) (q : ℕ) → q ≢ p → record_at d (changed p f t) q ≡ record_at d t q
  changed_other t p f q n = ap (λ o. unwrap_or o d) (get_or-set_other t p q (option_map f (get_or t p None)) None n)

  -- what is read at a place after a write there, where the place need not be in the table
  pub put_here : (P : A → Type 0) (t : List A) (p : ℕ) (a : A) → P a → P d → P (get_or (set t p a) p d)
  put_here P [] p a h k = k
  put_here P (x ∷ t) zero a h k = h
  put_here P (x ∷ t) (suc p) a h k = put_here P t p a h k

  -- every record changed
  pub all_related : (R : A → A → Type 0) → R d d → (f : A → A) → ((a : A) → R a (f a)) → (t : List (Option A)) (q : ℕ) → R (record_at d t q) (record_at d (map (option_map f) t) q)
  all_related R none f h [] q = none
  all_related R none f h (None ∷ t) zero = none
  all_related R none f h (Some x ∷ t) zero = h x
  all_related R none f h (o ∷ t) (suc q) = all_related R none f h t q

  pub each_related : (R : A → A → Type 0) → R d d → (f : ℕ → A → A) → ((k : ℕ) (a : A) → R a (f k a)) → (i : ℕ) (t : List A) (q : ℕ) → R (get_or t q d) (get_or (each_from f i t) q d)
  each_related R none f h i [] q = none
  each_related R none f h i (x ∷ t) zero = h i x
  each_related R none f h i (x ∷ t) (suc q) = each_related R none f h (suc i) t q

  module _ (w : A → ℕ) where
    -- a weight summed up, after a write: the old weight goes and the new one comes
    pub put_list_sum : w d ≡ 0 → (t : List A) (p : ℕ) (a : A) → sum_by w (set t p a) + w (get_or t p d) ≤ sum_by w t + w a
    put_list_sum z [] p a = omega arith
    put_list_sum z (x ∷ t) zero a = omega (arith, sum_by-cons w x t, sum_by-cons w a t)
    put_list_sum z (x ∷ t) (suc p) a = omega (arith, sum_by-cons w x t, sum_by-cons w x (set t p a), put_list_sum z t p a)

    -- the same in a table, of which a free place weighs nothing
    pub put_sum : w d ≡ 0 → (t : List (Option A)) (p : ℕ) (o : Option A) → sum_by w (records (set t p o)) + w (record_at d t p) ≤ sum_by w (records t) + w (unwrap_or o d)
    put_sum z [] p o = omega (arith, z)
    put_sum z (None ∷ t) zero None = omega arith
    put_sum z (None ∷ t) zero (Some a) = omega (arith, z, sum_by-cons w a (records t))
    put_sum z (Some x ∷ t) zero None = omega (arith, z, sum_by-cons w x (records t))
    put_sum z (Some x ∷ t) zero (Some a) = omega (arith, sum_by-cons w x (records t), sum_by-cons w a (records t))
    put_sum z (None ∷ t) (suc p) o = put_sum z t p o
    put_sum z (Some x ∷ t) (suc p) o = omega (arith, sum_by-cons w x (records t), sum_by-cons w x (records (set t p o)), put_sum z t p o)

    pub changed_sum : w d ≡ 0 → (t : List (Option A)) (p : ℕ) (f : A → A) → sum_by w (records (changed p f t)) + w (record_at d t p) ≤ sum_by w (records t) + w (f (record_at d t p))
    changed_sum z t p f = omega (arith, put_sum z t p (option_map f (get_or t p None)), at_most (get_or t p None))
      where
        at_most : (o : Option A) → w (unwrap_or (option_map f o) d) ≤ w (f (unwrap_or o d))
        at_most None = omega (arith, z)
        at_most (Some x) = omega arith

pub put_record_cases : {A : Type 0} (d : A) (t : List (Option A)) (p : ℕ) (o : Option A) (q : ℕ)
    → ((q ≡ p) × (record_at d (set t p o) q ≡ unwrap_or o d)) ⊎ (record_at d (set t p o) q ≡ record_at d t q)
put_record_cases d t p o q =
    elim (put_cases None t p o q) [ inl h ↦ inl (h.0, ap (λ x. unwrap_or x d) h.1) | inr h ↦ inr (ap (λ x. unwrap_or x d) h) ]

-- two changes that agree on the record that is there
module _ {A : Type 0} (d : A) (f g : A → A) where
  same_value : (o : Option A) → f (unwrap_or o d) ≡ g (unwrap_or o d) → option_map f o ≡ option_map g o
  same_value None h = refl
  same_value (Some a) h = ap Some h

  pub changed_alike : (t : List (Option A)) (p : ℕ) → f (record_at d t p) ≡ g (record_at d t p) → changed p f t ≡ changed p g t
  changed_alike t p e = ap (set t p) (same_value (get_or t p None) e)

pub each_length : {A : Type 0} (f : ℕ → A → A) (i : ℕ) (t : List A) → length (each_from f i t) ≡ length t
each_length f i [] = refl
each_length f i (x ∷ t) = ap suc (each_length f (suc i) t)

module _ {A : Type 0} (w : A → ℕ) where
  pub all_sum : (f : A → A) → ((a : A) → w (f a) ≤ w a) → (t : List (Option A)) → sum_by w (records (map (option_map f) t)) ≤ sum_by w (records t)
  all_sum f h [] = omega arith
  all_sum f h (None ∷ t) = all_sum f h t
  all_sum f h (Some x ∷ t) =
      let here = h x in
      omega (arith, sum_by-cons w x (records t), sum_by-cons w (f x) (records (map (option_map f) t)), all_sum f h t)

  -- a list whose elements are changed, each by its place, weighs no more where none of them does
  pub each_sum : (f : ℕ → A → A) → ((k : ℕ) (a : A) → w (f k a) ≤ w a) → (i : ℕ) (t : List A) → sum_by w (each_from f i t) ≤ sum_by w t
  each_sum f h i [] = omega arith
  each_sum f h i (x ∷ t) =
      let here = h i x in
      omega (arith, sum_by-cons w x t, sum_by-cons w (f i x) (each_from f (suc i) t), each_sum f h (suc i) t)

  -- weights of at most one sum up to at most the length of a list
  pub sum_list_ones : ((a : A) → w a ≤ 1) → (t : List A) → sum_by w t ≤ length t
  sum_list_ones h [] = omega arith
  sum_list_ones h (x ∷ t) = let here = h x in omega (arith, sum_by-cons w x t, sum_list_ones h t)

  -- and to at most the number of places of a table
  pub sum_ones : ((a : A) → w a ≤ 1) → (t : List (Option A)) → sum_by w (records t) ≤ length t
  sum_ones h [] = omega arith
  sum_ones h (None ∷ t) = omega (arith, sum_ones h t)
  sum_ones h (Some x ∷ t) = let here = h x in omega (arith, sum_by-cons w x (records t), sum_ones h t)

-- what is left in a list of places
pub without_member : (p : ℕ) (xs : List ℕ) (c : ℕ) → Member c (without p xs) → Member c xs × (c ≢ p)
without_member p [] c m = absurd m
without_member p (x ∷ xs) c m =
    cond_both (not (eqb x p)) (x ∷ without p xs) (without p xs) (λ (v : List ℕ). Member c v → Member c (x ∷ xs) × (c ≢ p))
    (λ e k. elim k [ inl h ↦ (inl h, λ z. eqb-false x p (not-true (eqb x p) e) (sym h ∙ z)) | inr h ↦ (let r = without_member p xs c h in (inr r.0, r.1)) ])
    (λ e k. let r = without_member p xs c k in (inr r.0, r.1))
    m

pub added_member : (xs : List ℕ) (x c : ℕ) → Member c (xs ++ x ∷ []) → Member c xs ⊎ (c ≡ x)
added_member [] x c (inl e) = inr e
added_member [] x c (inr m) = absurd m
added_member (y ∷ xs) x c (inl e) = inl (inl e)
added_member (y ∷ xs) x c (inr m) = elim (added_member xs x c m) [ inl h ↦ inl (inr h) | inr h ↦ inr h ]

pub joined_member : (xs ys : List ℕ) (c : ℕ) → Member c (xs ++ ys) → Member c xs ⊎ Member c ys
joined_member [] ys c m = inr m
joined_member (x ∷ xs) ys c (inl e) = inl (inl e)
joined_member (x ∷ xs) ys c (inr m) = elim (joined_member xs ys c m) [ inl h ↦ inl (inr h) | inr h ↦ inr h ]

-- a search that finds a place: it is in the table, and its record passes the test
pub found_at : {A : Type 0} (test : A → Bool) (d : A) (i : ℕ) (xs : List A) (p : ℕ) → place_from test i xs ≡ Some p
    → (k : ℕ) × (p ≡ i + k) × (k < length xs) × (test (get_or xs k d) ≡ true)
found_at test d i [] p e = let z : ◌≡◌ {A = ℕ} 0 1 = cc in absurd (omega arith)
found_at test d i (x ∷ xs) p e = go (test x) refl (found_at test d (i + 1) xs p) e
  where
    go : (b : Bool) → test x ≡ b → (place_from test (i + 1) xs ≡ Some p → (k : ℕ) × (p ≡ i + 1 + k) × (k < length xs) × (test (get_or xs k d) ≡ true))
        → cond b (Some i) (place_from test (i + 1) xs) ≡ Some p → (k : ℕ) × (p ≡ i + k) × (k < length (x ∷ xs)) × (test (get_or (x ∷ xs) k d) ≡ true)
    go true h ih e = let w : i ≡ p = cc in (0, omega arith, omega arith, h)
    go false h ih e = let r = ih e in let w = r.1 in let l = r.2 in (suc r.0, omega arith, omega arith, r.3)

pub replicated : {A : Type 0} (d : A) (n k : ℕ) → get_or (replicate n d) k d ≡ d
replicated d zero k = refl
replicated d (suc n) zero = refl
replicated d (suc n) (suc k) = replicated d n k
