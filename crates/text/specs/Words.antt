-- The words of a line.
use Rattle.std.specs.Prelude.{ℕ, cond, List, [], ◌∷◌, ◌++◌}
use Rattle.text.specs.Bytes.{blank, comment}
use Rattle.text.specs.Lines.{before}

-- the words from within a word on, of which front was read; a comment ends the line
abbrev pub words_on : List ℕ → List ℕ → List (List ℕ)
words_on front [] = before front []
words_on front (b ∷ bs) =
    cond (blank b) (before front (words_on [] bs)) (cond (comment b) (before front []) (words_on (front ++ b ∷ []) bs))

abbrev pub words : List ℕ → List (List ℕ)
words line = words_on [] line
