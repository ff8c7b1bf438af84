-- A word that is one of two.
use Rattle.std.specs.Prelude.{ℕ, cond, List, Some, None, Ok, Err, Option, Result}
use Rattle.std.specs.Str.{bytes_eq}
use Rattle.text.specs.declared.problem.Problem.{Problem}

-- the value that stands for the word; what is neither of the two is that problem
unfoldable pub either_word : {A : Type 0} → List ℕ → A → List ℕ → A → Problem → Option (List ℕ) → Result A Problem
either_word first a second b problem None = Err problem
either_word first a second b problem (Some word) =
    cond (bytes_eq word first) (Ok a) (cond (bytes_eq word second) (Ok b) (Err problem))
