-- The arguments of a line, read from left to right.
use Rattle.std.specs.Prelude.{◌≡◌, ℕ, cond, List, ℤ, Some, None, Ok, Err, Option, Result, refl}
use Rattle.std.specs.Option.{ok_or}
use Rattle.std.specs.Str.{bytes_eq}
use Rattle.text.specs.declared.problem.Argument.{Argument}
use Rattle.text.specs.declared.problem.Problem.{Problem}
use Rattle.text.specs.declared.problem.Problem.TheVariants.{Missing, NotUnsigned, NotSigned, WordTooMany}
use Rattle.text.specs.Lines.{first_of, after_first}
use Rattle.text.specs.Number.{unsigned, signed}

-- what follows a step gets its value; a problem is the answer
abbrev pub and_then : {A B E : Type 0} → Result A E → (A → Result B E) → Result B E
and_then (Ok a) next = next a
and_then (Err e) next = Err e

-- the first of the words that are left is read, if there is one, and what follows gets its value and the words after it
abbrev pub reading : {A B : Type 0} → (Option (List ℕ) → Result A Problem) → List (List ℕ) → (A → List (List ℕ) → Result B Problem) → Result B Problem
reading read ws next = and_then (read (first_of ws)) (λ x. next x (after_first ws))

unfoldable pub unsigned_argument : Argument → Option (List ℕ) → Result ℕ Problem
unsigned_argument name None = Err (Missing name)
unsigned_argument name (Some word) = ok_or (unsigned word) (NotUnsigned name)

pub unsigned_missing : (name : Argument) → unsigned_argument name None ≡ Err (Missing name)
unfolding unsigned_argument
unsigned_missing name = refl

unfoldable pub signed_argument : Argument → Option (List ℕ) → Result ℤ Problem
signed_argument name None = Err (Missing name)
signed_argument name (Some word) = ok_or (signed word) (NotSigned name)

pub signed_missing : (name : Argument) → signed_argument name None ≡ Err (Missing name)
unfolding signed_argument
signed_missing name = refl

-- a word that is always the same; what else stands there is that problem
unfoldable pub fixed_word : List ℕ → Problem → Option (List ℕ) → Result (Unit {0}) Problem
fixed_word text problem None = Err problem
fixed_word text problem (Some word) = cond (bytes_eq word text) (Ok tt) (Err problem)

-- no word is left
unfoldable pub line_end : Option (List ℕ) → Result (Unit {0}) Problem
line_end None = Ok tt
line_end (Some word) = Err WordTooMany
