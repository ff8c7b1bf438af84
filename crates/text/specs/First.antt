-- The first line of a file that has a word, and the number of a bad line.
use Rattle.std.specs.Prelude.{ℕ, ◌+◌, max, cond, List, [], ◌∷◌, is_some, Ok, Err, Result}
use Rattle.text.specs.declared.problem.BadLine.{BadLine}
use Rattle.text.specs.declared.problem.Problem.{Problem}
use Rattle.text.specs.declared.problem.Problem.TheVariants.{NoConsole}
use Rattle.text.specs.Lines.{first_of}
use Rattle.text.specs.Words.{words}

-- the first line with a word among those after the first n: its number, the line and the lines after it
abbrev pub first_line : ℕ → List (List ℕ) → Result (ℕ × List ℕ × List (List ℕ)) BadLine
first_line n [] = Err (record { line = max n 1; problem = NoConsole })
first_line n (l ∷ ls) = cond (is_some (first_of (words l))) (Ok (n + 1, l, ls)) (first_line (n + 1) ls)

-- the problem, if there is one, is that of line n
abbrev pub on_line : {A : Type 0} → ℕ → Result A Problem → Result A BadLine
on_line n (Ok x) = Ok x
on_line n (Err problem) = Err (record { line = n; problem = problem })
