-- What a function answers that may run out of memory.
use Rattle.std.specs.Prelude.{◌≡◌, ◌⊎◌, Ok, Err, Result, MatchResult}
use Rattle.text.specs.declared.problem.BadLine.{BadLine}
use Rattle.text.specs.declared.problem.Problem.{Problem}
use Rattle.text.specs.declared.problem.Problem.TheVariants.{NoMemory}

-- the problem is what the file says, or that memory ran out
abbrev pub Wrong : {A : Type 0} → Problem → Result A Problem → Type 0
Wrong problem said = (problem ≡ NoMemory) ⊎ (said ≡ Err problem)

abbrev pub WrongLine : {A : Type 0} → BadLine → Result A BadLine → Type 0
WrongLine bad said = (bad.problem ≡ NoMemory) ⊎ (said ≡ Err bad)

-- the result, as the view shows its value, is what the text says
abbrev pub GivesAlways : {A B : Type 0} → (A → B) → Result A Problem → Result B Problem → Type 0
GivesAlways view result said = MatchResult result (λ x. said ≡ Ok (view x)) (λ problem. said ≡ Err problem)

-- the result, as the view shows its value, is what the text says, unless memory ran out
abbrev pub Gives : {A B : Type 0} → (A → B) → Result A Problem → Result B Problem → Type 0
Gives view result said = MatchResult result (λ x. said ≡ Ok (view x)) (λ problem. Wrong problem said)

-- the same of the lines of a file, whose problem comes with its line
abbrev pub GivesFile : {A B : Type 0} → (A → B) → Result A BadLine → Result B BadLine → Type 0
GivesFile view result said = MatchResult result (λ x. said ≡ Ok (view x)) (λ bad. WrongLine bad said)
