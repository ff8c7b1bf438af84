-- Ways up a forest of surfaces: how long they are, and what keeps a forest a forest.
use Rattle.std.proofs.Common.{◌≡◌, ℕ, zero, suc, ◌+◌, ◌<◌, Bool, true, false, ◌||◌, eqb, ◌≢◌, ◌⊎◌, List, [], ◌∷◌, length, replicate, Some, None, Option, sym, refl, ap, ◌∙◌, inl, inr, ⊎_elim, suc-add, zero-add, arith, unwrap_or}
use lib.ListN.{get_or-replicate}
use Rattle.std.specs.List.{AllByRecursion}
use Rattle.std.proofs.ByRecursion.{All-weaker}
use Rattle.std.proofs.lemmas.List.{get_or_past}
use Rattle.std.proofs.lemmas.Bool.{cases_lt, cases_eq, eqb-false, eq-eqb, both_ways, or_parts, or_left, or_right}
use Rattle.rules.specs.State.{Model, Surface, no_surface, surface_at}
use Rattle.rules.specs.Tree.{held_back_in, descends_in, descends}
use Rattle.bounds.specs.Forest.{parent_in, Climb, stay, rise, Forest, Fits}
use Rattle.bounds.specs.Member.{Once}
use Rattle.bounds.proofs.Pigeons.{pigeons}
use Rattle.rules.specs.Table.{record_at, some_and}

module _ (t : List (Option Surface)) (p q : ℕ) (e : parent_in t p ≡ Some q) where
  -- a place with a parent has a surface
  occupied : record_at no_surface t p ≢ no_surface
  occupied none = let z : parent_in t p ≡ None = ap (λ (s : Surface). s.parent) none in grind arith

  -- so a place with one is in the table
  pub has_place : p < length t
  has_place = ⊎_elim (λ h. h) (λ h. absurd (occupied (ap (λ o. unwrap_or o no_surface) (get_or_past t p None h)))) (cases_lt p (length t))

-- some way leads up from p to x
abbrev Reached : List (Option Surface) → ℕ → ℕ → Type 0
Reached t p x = (k : ℕ) × Climb t k p x

module _ {t : List (Option Surface)} where
  -- the places on a way up
  abbrev path : {n p a : ℕ} → Climb t n p a → List ℕ
  path (stay p) = p ∷ []
  path (rise n p q a e c) = p ∷ path c

  path_length : {n p a : ℕ} (c : Climb t n p a) → length (path c) ≡ suc n
  path_length (stay p) = refl
  path_length (rise n p q a e c) = ap suc (path_length c)

  reached : {n p a : ℕ} (c : Climb t n p a) → AllByRecursion (Reached t p) (path c)
  reached (stay p) = ((0, stay p), tt)
  reached (rise n p q a e c) =
      let higher : (x : ℕ) → Reached t q x → Reached t p x = λ x r. (suc r.0, rise r.0 p q x e r.1) in
      ((0, stay p), All-weaker (Reached t q) (Reached t p) higher (path c) (reached c))

  path_once : Forest t → {n p a : ℕ} (c : Climb t n p a) → Once (path c)
  path_once f (stay p) = (tt, tt)
  path_once f (rise n p q a e c) =
      let other : (x : ℕ) → Reached t q x → x ≢ p = λ x r h. f.no_cycle r.0 p (rise r.0 p q p e (rw h at r.1)) in
      (All-weaker (Reached t q) (λ x. x ≢ p) other (path c) (reached c), path_once f c)

  path_within : Forest t → {n p a : ℕ} (c : Climb t n p a) → p < length t → AllByRecursion (λ x. x < length t) (path c)
  path_within f (stay p) h = (h, tt)
  path_within f (rise n p q a e c) h = (h, path_within f c (f.parents p q e))

module _ (t : List (Option Surface)) (f : Forest t) (l : length t ≡ 32) where
  -- a way up has fewer steps than the table has places
  pub climb_short : (n p a : ℕ) → Climb t n p a → n < 32
  climb_short _ _ _ (stay p) = omega arith
  climb_short _ _ _ (rise n p q a e c) =
      let w = rise n p q a e c in
      omega (arith, path_length w, pigeons (length t) (path w) (path_once f w) (path_within f w (has_place t p q e)))

  -- so 32 levels are all that is below a surface
  pub fits_all : (p : ℕ) → Fits t 32 p
  fits_all p k a c = climb_short k a p c

-- one way up, then another
joined : (t : List (Option Surface)) (n p a : ℕ) → Climb t n p a → (k b : ℕ) → Climb t k a b → Climb t (n + k) p b
joined t _ _ _ (stay p) k b d = rw zero-add d
joined t _ _ _ (rise n p q a e c) k b d = rw suc-add (rise (n + k) p q b e (joined t n q a c k b d))

-- a child has a level less below it
pub fits_child : (t : List (Option Surface)) (n p c : ℕ) → Fits t (suc n) p → parent_in t c ≡ Some p → Fits t n c
fits_child t n p c h e k a w = omega (arith, h (k + 1) a (joined t k a c w 1 p (rise 0 c p p e (stay p))))

-- what fits n levels fits one more
pub fits_more : (t : List (Option Surface)) (n p : ℕ) → Fits t n p → Fits t (suc n) p
fits_more t n p h k a c = omega (arith, h k a c)

-- a surface is itself a level
pub fits_none : (t : List (Option Surface)) (p : ℕ) → Fits t 0 p → ⊥
fits_none t p h = omega (arith, h 0 p (stay p))

-- a way up by parents that were there before was a way up
was_climb : (t u : List (Option Surface)) → ((p q : ℕ) → parent_in u p ≡ Some q → parent_in t p ≡ Some q)
    → (n p a : ℕ) → Climb u n p a → Climb t n p a
was_climb t u was _ _ _ (stay p) = stay p
was_climb t u was _ _ _ (rise n p q a e c) = rise n p q a (was p q e) (was_climb t u was n q a c)

-- the parents alone say what fits
pub fits_same : (t u : List (Option Surface)) → ((q : ℕ) → parent_in u q ≡ parent_in t q) → (n p : ℕ) → Fits t n p → Fits u n p
fits_same t u same n p h k a c = h k a (was_climb t u (λ x y e. sym (same x) ∙ e) k a p c)

-- a forest stays one where parents stay or go
pub pruned : (t u : List (Option Surface)) → Forest t → length u ≡ length t
    → ((p : ℕ) → (parent_in u p ≡ parent_in t p) ⊎ (parent_in u p ≡ None)) → Forest u
pruned t u f l kept =
    record {
      no_cycle = λ n p c. f.no_cycle n p (was_climb t u was (suc n) p p c);
      parents = λ p q e. omega (arith, f.parents p q (was p q e));
    }
  where
    was : (p q : ℕ) → parent_in u p ≡ Some q → parent_in t p ≡ Some q
    was p q e = ⊎_elim (λ same. sym same ∙ e) (λ gone. grind arith) (kept p)

no_parent : (p q : ℕ) → parent_in (replicate 32 None) p ≡ Some q → ⊥
no_parent p q e =
    let t = replicate 32 None in
    occupied t p q e (ap (λ o. unwrap_or o no_surface) (get_or-replicate 32 p None None (has_place t p q e)))

no_rise : (n p a : ℕ) → Climb (replicate 32 None) (suc n) p a → ⊥
no_rise n p a (rise _ _ q _ e c) = no_parent p q e

-- in a new table no surface has a parent
pub empty_forest : Forest (replicate 32 None)
empty_forest = record { no_cycle = λ n p c. no_rise n p p c; parents = λ p q e. absurd (no_parent p q e) }

-- a test that looks up n steps: of a parent it asks g, and then itself with a step less
module _ (t : List (Option Surface)) (g : ℕ → ℕ → Bool) (test : ℕ → ℕ → Bool)
    (step : (n p : ℕ) → test (suc n) p ≡ some_and (λ q. g p q || test n q) (parent_in t p)) where
  -- where no way up has n steps, one step more tells no more
  one_more : (n p : ℕ) → ((a : ℕ) → Climb t n p a → ⊥) → test (suc n) p ≡ test n p
  one_more zero p h = absurd (h p (stay p))
  one_more (suc n) p h = step (suc n) p ∙ go (parent_in t p) refl (one_more n) ∙ sym (step n p)
    where
      go : (o : Option ℕ) → parent_in t p ≡ o → ((q : ℕ) → ((a : ℕ) → Climb t n q a → ⊥) → test (suc n) q ≡ test n q)
          → some_and (λ q. g p q || test (suc n) q) o ≡ some_and (λ q. g p q || test n q) o
      go None e ih = refl
      go (Some q) e ih = ap (λ b. g p q || b) (ih q (λ a c. h a (rise n p q a e c)))

  far_enough : Forest t → length t ≡ 32 → (n p : ℕ) → test (n + 32) p ≡ test 32 p
  far_enough f l zero p = refl
  far_enough f l (suc n) p =
      ap (λ k. test k p) (suc-add n 32)
      ∙ one_more (n + 32) p (λ a c. omega (arith, climb_short t f l (n + 32) p a c))
      ∙ far_enough f l n p

same_end : {t : List (Option Surface)} {n p a : ℕ} → Climb t n p a → n ≡ 0 → p ≡ a
same_end (stay p) e = refl
same_end (rise n p q a h c) e = absurd (omega arith)

-- a way up of at most k steps is found by looking up k steps
found : (m : Model) (k n p a : ℕ) → Climb m.surfaces (suc n) p a → n < k → descends_in k m p a ≡ true
unfolding descends_in
found m zero n p a c h = absurd (omega arith)
found m (suc k) n p a (rise _ _ q _ e c) h =
    ap (λ o. some_and (λ x. eqb x a || descends_in k m x a) o) e ∙ go (λ j. found m k j q a) n c h
  where
    go : ((j : ℕ) → Climb m.surfaces (suc j) q a → j < k → descends_in k m q a ≡ true)
        → (j : ℕ) → Climb m.surfaces j q a → j < suc k → (eqb q a || descends_in k m q a) ≡ true
    go ih zero c h = or_left (eqb q a) (descends_in k m q a) (eq-eqb q a (same_end c refl))
    go ih (suc j) c h = or_right (eqb q a) (descends_in k m q a) (ih j c (omega arith))

module _ (m : Model) (f : Forest m.surfaces) (l : length m.surfaces ≡ 32) where
  -- to look further up than 32 steps tells no more of who is held back
  pub held_back_enough : (n p : ℕ) → held_back_in (n + 32) m p ≡ held_back_in 32 m p
  unfolding held_back_in
  held_back_enough n p = far_enough m.surfaces (λ x _. (surface_at m x).sync) (λ k x. held_back_in k m x) (λ _ _. refl) f l n p

  -- nor of who descends from whom
  pub descends_enough : (n p a : ℕ) → descends_in (n + 32) m p a ≡ descends_in 32 m p a
  unfolding descends_in
  descends_enough n p a = far_enough m.surfaces (λ _ q. eqb q a) (λ k x. descends_in k m x a) (λ _ _. refl) f l n p

  -- where q is not s and does not descend from it, no way up leads from q to s
  pub apart : (q s : ℕ) → (eqb q s || descends m q s) ≡ false → (n : ℕ) → Climb m.surfaces n q s → ⊥
  apart q s e zero c = eqb-false q s (or_parts (eqb q s) (descends m q s) e).0 (same_end c refl)
  apart q s e (suc n) c =
      let short = climb_short m.surfaces f l (suc n) q s c in
      both_ways (descends m q s) (or_parts (eqb q s) (descends m q s) e).1 (found m 32 n q s c (omega arith))

module _ (t u : List (Option Surface)) (s q : ℕ)
    (same : (p : ℕ) → p ≢ s → parent_in u p ≡ parent_in t p) (new : (x : ℕ) → parent_in u s ≡ Some x → x ≡ q) where
  -- what a way up was before s got the parent q: itself, or a way to s and one from q
  before : (n p a : ℕ) → Climb u n p a → Climb t n p a ⊎ ((k : ℕ) × (j : ℕ) × Climb t k p s × Climb t j q a)
  before _ _ _ (stay p) = inl (stay p)
  before _ _ _ (rise n p x a e c) = go (cases_eq p s) (before n x a c)
    where
      go : (p ≡ s) ⊎ (p ≡ s → ⊥) → Climb t n x a ⊎ ((k : ℕ) × (j : ℕ) × Climb t k x s × Climb t j q a)
          → Climb t (suc n) p a ⊎ ((k : ℕ) × (j : ℕ) × Climb t k p s × Climb t j q a)
      go (inl h) (inl d) = inr (0, n, rw h (stay s), rw (new x (rw h at e)) at d)
      go (inl h) (inr r) = inr (0, r.1, rw h (stay s), r.3)
      go (inr h) (inl d) = inl (rise n p x a (sym (same p h) ∙ e) d)
      go (inr h) (inr r) = inr (suc r.0, r.1, rise r.0 p x s (sym (same p h) ∙ e) r.2, r.3)

-- a forest stays one where s gets the parent q, and no way up led from q to s
pub adopted : (t u : List (Option Surface)) (s q : ℕ) → Forest t → length u ≡ length t → q < length t
    → ((p : ℕ) → p ≢ s → parent_in u p ≡ parent_in t p) → ((x : ℕ) → parent_in u s ≡ Some x → x ≡ q)
    → ((n : ℕ) → Climb t n q s → ⊥) → Forest u
adopted t u s q f l lq same new far =
    record {
      no_cycle =
          λ n p c.
          ⊎_elim (λ d. f.no_cycle n p d) (λ r. far (r.1 + r.0) (joined t r.1 q p r.3 r.0 s r.2))
          (before t u s q same new (suc n) p p c);
      parents =
          λ p x e.
          ⊎_elim (λ h. omega (arith, new x (rw h at e))) (λ h. omega (arith, f.parents p x (sym (same p h) ∙ e)))
          (cases_eq p s);
    }
