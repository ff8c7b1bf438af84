-- What a writer does to the bytes of its output.
use Rattle.std.specs.Prelude.{◌≡◌, ℕ, List, ◌∷◌, ◌++◌, length, take, Result, MatchResult}
use Rattle.std.specs.List.{flat_map}

-- the text stands after what was there before; where memory ran out, what was there before is still the front
abbrev pub Appends : {E : Type 0} → Result (Unit {0}) E → List ℕ → List ℕ → List ℕ → Type 0
Appends r before text after = MatchResult r (λ _. after ≡ before ++ text) (λ _. take (length before) after ≡ before)

-- the text of each, with a space before it
abbrev pub spaced : (ℕ → List ℕ) → List ℕ → List ℕ
spaced text xs = flat_map (λ x. 32 ∷ text x) xs
