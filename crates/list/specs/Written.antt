-- Lent places that a list was written to.
use Rattle.std.specs.Prelude.{List, ◌++◌, length, drop}

-- the places once xs stand in the first of them; later places stay as they were
abbrev pub written : {A : Type 0} → List A → List A → List A
written old xs = xs ++ drop (length xs) old
