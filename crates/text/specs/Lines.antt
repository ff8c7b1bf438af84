-- The lines of a text.
use Rattle.std.specs.Prelude.{◌≡◌, ℕ, ◌+◌, ◌<◌, cond, length, List, [], ◌∷◌, ◌++◌, Some, None, Option, MatchOption}
use Rattle.std.specs.Borrow.{Bor}
use Rattle.text.specs.Bytes.{newline}

-- bytes that were read, if there are any, in front of what follows
abbrev pub before : List ℕ → List (List ℕ) → List (List ℕ)
before [] rest = rest
before (b ∷ bs) rest = (b ∷ bs) ∷ rest

-- the lines from within a line on, of which front was read; the last line may lack its end
abbrev pub lines_on : List ℕ → List ℕ → List (List ℕ)
lines_on front [] = before front []
lines_on front (b ∷ bs) = cond (newline b) (front ∷ lines_on [] bs) (lines_on (front ++ b ∷ []) bs)

abbrev pub lines : List ℕ → List (List ℕ)
lines text = lines_on [] text

-- what is left of a text, and how many lines came before it
pub record LinesLeft : Type 0 where
  pub before : ℕ
  pub text : List ℕ

abbrev pub lines_left : LinesLeft → List (List ℕ)
lines_left left = lines left.text

-- the first line that was left comes, with its number, and the others stay, in fewer bytes; where none was left, all stays
abbrev pub NextLine : LinesLeft → Option (ℕ × Bor (List ℕ)) → LinesLeft → Type 0
NextLine left next after =
    MatchOption next ((lines_left left ≡ []) × (after ≡ left)) λ found.
    (found.0 ≡ left.before + 1) × (after.before ≡ left.before + 1) × (length after.text < length left.text) × (lines_left left ≡ found.1.now ∷ lines_left after)

-- the first of some lines or words, and those after it
abbrev pub first_of : {A : Type 0} → List A → Option A
first_of [] = None
first_of (x ∷ xs) = Some x

abbrev pub after_first : {A : Type 0} → List A → List A
after_first [] = []
after_first (x ∷ xs) = xs
