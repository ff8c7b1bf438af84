-- What a recording says.
use Rattle.std.specs.Prelude.{ℕ, ◌+◌, List, [], ◌∷◌, ◌++◌, Ok, Result}
use Rattle.text.specs.declared.problem.BadLine.{BadLine}
use Rattle.text.specs.declared.problem.Problem.{Problem}
use Rattle.text.specs.Argument.{and_then}
use Rattle.text.specs.First.{first_line, on_line}
use Rattle.text.specs.Lines.{lines}
use Rattle.text.specs.Words.{words}
use Rattle.recording.specs.declared.content.Console.{Console}
use Rattle.recording.specs.CallLine.{console_line}
use Rattle.recording.specs.Content.{PlainEntry, PlainLine, empty, places, call}
use Rattle.recording.specs.Line.{line_of}

-- how many places event lists have after a line
abbrev pub places_after : PlainLine → ℕ → ℕ
places_after empty n = n
places_after (places m) n = m
places_after (call c) n = n

-- the entries after a line with that number
abbrev pub entries_with : PlainLine → ℕ → ℕ → List PlainEntry → List PlainEntry
entries_with empty number n so_far = so_far
entries_with (places m) number n so_far = so_far
entries_with (call c) number n so_far = so_far ++ record { line = number; places = n; call = c } ∷ []

-- the places and the entries after a line
abbrev pub after_line : ℕ → ℕ → List PlainEntry → List (List ℕ) → Result (ℕ × List PlainEntry) Problem
after_line number n so_far ws =
    and_then (line_of ws) λ line.
    Ok (places_after line n, entries_with line number n so_far)

-- the entries after the lines that follow the first before lines of a file
abbrev pub entries_after : ℕ → ℕ → List PlainEntry → List (List ℕ) → Result (List PlainEntry) BadLine
entries_after before n so_far [] = Ok so_far
entries_after before n so_far (l ∷ ls) =
    and_then (on_line (before + 1) (after_line (before + 1) n so_far (words l))) λ next.
    entries_after (before + 1) next.0 next.1 ls

-- the console, its line and the entries of a text, or its first bad line; at first an event list has 160 places
abbrev pub recording_of : List ℕ → Result (Console × ℕ × List PlainEntry) BadLine
recording_of text =
    and_then (first_line 0 (lines text)) λ first.
    and_then (on_line first.0 (console_line (words first.1))) λ console.
    and_then (entries_after first.0 160 [] first.2) λ entries.
    Ok (console, first.0, entries)
