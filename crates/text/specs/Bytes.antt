-- The bytes that part a text into lines and words.
use Rattle.std.specs.Prelude.{ℕ, Bool, not, ◌||◌, ◌==◌}

-- a space, a tab or a carriage return
abbrev pub blank : ℕ → Bool
blank b = b == 32 || b == 9 || b == 13

-- #
abbrev pub comment : ℕ → Bool
comment b = b == 35

-- the end of a line
abbrev pub newline : ℕ → Bool
newline b = b == 10

-- whether a word goes on at the byte b
abbrev pub in_word : ℕ → Bool
in_word b = not (blank b || comment b)

-- whether a line goes on at the byte b
abbrev pub in_line : ℕ → Bool
in_line b = not (newline b)
