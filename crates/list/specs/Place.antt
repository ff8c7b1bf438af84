-- The first place of a list whose element passes a test.
use Rattle.std.specs.Prelude.{ℕ, ◌+◌, Bool, cond, List, [], ◌∷◌, Some, None, Option}

-- where the first element has place i
abbrev pub place_from : {A : Type 0} → (A → Bool) → ℕ → List A → Option ℕ
place_from p i [] = None
place_from p i (x ∷ xs) = cond (p x) (Some i) (place_from p (i + 1) xs)

abbrev pub place : {A : Type 0} → (A → Bool) → List A → Option ℕ
place p xs = place_from p 0 xs
