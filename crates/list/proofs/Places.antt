-- The first place of a list whose element passes a test: where `position` has it.
use Rattle.std.proofs.Common.{◌≡◌, ℕ, ◌+◌, Bool, true, false, cond, ltb, ◌||◌, List, [], ◌∷◌, length, is_some, Some, None, sym, refl, ap, ◌∙◌, ⊎_elim, arith}
use Rattle.std.specs.List.{position, position_or_len, list_any}
use Rattle.std.proofs.lemmas.Bool.{cases_Bool, cond-true, cond-false, or_left}
use Rattle.list.specs.Place.{place, place_from}

module _ {A : Type 0} (p : A → Bool) where
  -- where so many elements fail the test
  place_after : (i : ℕ) (xs : List A) → place_from p i xs ≡ cond (ltb (position_or_len p xs) (length xs)) (Some (i + position_or_len p xs)) None
  place_after i [] = refl
  place_after i (x ∷ xs) =
      ⊎_elim
      (λ (t : p x ≡ true). grind (arith, t))
      (λ (f : p x ≡ false). let h = place_after (i + 1) xs in grind (arith, f, h))
      (cases_Bool (p x))

  pub position_place : (xs : List A) → position p xs ≡ place p xs
  position_place xs = grind (arith, place_after 0 xs)

-- a place is found exactly if there is one
pub place_any : {A : Type 0} (p : A → Bool) (i : ℕ) (xs : List A) → is_some (place_from p i xs) ≡ list_any p xs
place_any p i [] = refl
place_any p i (x ∷ xs) =
    ⊎_elim
    (λ t. ap is_some (cond-true (p x) (Some i) (place_from p (i + 1) xs) t) ∙ sym (or_left (p x) (list_any p xs) t))
    (λ f. ap is_some (cond-false (p x) (Some i) (place_from p (i + 1) xs) f) ∙ place_any p (i + 1) xs ∙ ap (λ b. b || list_any p xs) (sym f))
    (cases_Bool (p x))
