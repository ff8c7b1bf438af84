-- What one line of a recording after the console's says.
use Rattle.std.specs.Prelude.{ℕ, cond, List, Some, None, Ok, Err, codes, Option, Result}
use Rattle.std.specs.Str.{bytes_eq}
use Rattle.text.specs.declared.problem.Problem.{Problem}
use Rattle.text.specs.declared.problem.Problem.TheVariants.{SecondConsole, UnknownLine}
use Rattle.text.specs.Lines.{first_of, after_first}
use Rattle.recording.specs.CallLine.{events_line, request_line, buffer_line, root_line, paint_line, switch_line, frame_line}
use Rattle.recording.specs.Content.{PlainLine, empty}

-- by its first word and those after it
abbrev pub line_by : List ℕ → List (List ℕ) → Result PlainLine Problem
line_by word ws =
    cond (bytes_eq word (codes "events")) (events_line ws)
    (cond (bytes_eq word (codes "request")) (request_line ws)
    (cond (bytes_eq word (codes "buffer")) (buffer_line ws)
    (cond (bytes_eq word (codes "root")) (root_line ws)
    (cond (bytes_eq word (codes "paint")) (paint_line ws)
    (cond (bytes_eq word (codes "switch")) (switch_line ws)
    (cond (bytes_eq word (codes "frame")) (frame_line ws)
    (cond (bytes_eq word (codes "console")) (Err SecondConsole) (Err UnknownLine))))))))

abbrev pub line_from : Option (List ℕ) → List (List ℕ) → Result PlainLine Problem
line_from None ws = Ok empty
line_from (Some word) ws = line_by word ws

abbrev pub line_of : List (List ℕ) → Result PlainLine Problem
line_of ws = line_from (first_of ws) (after_first ws)
