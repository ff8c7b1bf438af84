-- The lines of a recording; those after the console's past the word that says their kind.
use Rattle.std.specs.Prelude.{ℕ, true, false, List, [], Ok, codes, Result}
use Rattle.text.specs.declared.problem.Argument.TheVariants.{X, Y, First, Width, Height, Stride, Format, Pixels, Client, Id, Offset, Places, Time}
use Rattle.text.specs.declared.problem.Problem.{Problem}
use Rattle.text.specs.declared.problem.Problem.TheVariants.{RecordingStart, SwitchForm}
use Rattle.text.specs.Argument.{and_then, reading, unsigned_argument, signed_argument, fixed_word, line_end}
use Rattle.recording.specs.declared.content.Console.{Console}
use Rattle.recording.specs.declared.content.PresenterKind.TheVariants.{Composer, Scanout}
use Rattle.recording.specs.Choice.{either_word}
use Rattle.recording.specs.Content.{PlainLine, places, call, request, buffer, root, paint, switch, frame}
use Rattle.recording.specs.Message.{message_bytes}
use Rattle.recording.specs.Paint.{paint_pixels}

-- console WIDTH HEIGHT composer|scanout PIXELS
abbrev pub console_line : List (List ℕ) → Result Console Problem
console_line ws =
    reading (fixed_word (codes "console") RecordingStart) ws λ _ ws.
    reading (unsigned_argument Width) ws λ width ws.
    reading (unsigned_argument Height) ws λ height ws.
    reading (either_word (codes "composer") Composer (codes "scanout") Scanout RecordingStart) ws λ presenter ws.
    reading (unsigned_argument Pixels) ws λ pixels ws.
    reading line_end ws λ _ _.
    Ok (record { size = record { width = width; height = height }; presenter = presenter; pixels = pixels })

-- N
abbrev pub events_line : List (List ℕ) → Result PlainLine Problem
events_line ws =
    reading (unsigned_argument Places) ws λ n ws.
    reading line_end ws λ _ _.
    Ok (places n)

-- CLIENT HEX..
abbrev pub request_line : List (List ℕ) → Result PlainLine Problem
request_line ws =
    reading (unsigned_argument Client) ws λ client ws.
    and_then (message_bytes [] ws) λ message.
    Ok (call (request client message))

-- CLIENT ID FIRST WIDTH HEIGHT STRIDE FORMAT
abbrev pub buffer_line : List (List ℕ) → Result PlainLine Problem
buffer_line ws =
    reading (unsigned_argument Client) ws λ client ws.
    reading (unsigned_argument Id) ws λ id ws.
    reading (unsigned_argument First) ws λ first ws.
    reading (unsigned_argument Width) ws λ width ws.
    reading (unsigned_argument Height) ws λ height ws.
    reading (unsigned_argument Stride) ws λ stride ws.
    reading (unsigned_argument Format) ws λ format ws.
    reading line_end ws λ _ _.
    Ok (call (buffer client id first width height stride format))

-- CLIENT ID X Y
abbrev pub root_line : List (List ℕ) → Result PlainLine Problem
root_line ws =
    reading (unsigned_argument Client) ws λ client ws.
    reading (unsigned_argument Id) ws λ id ws.
    reading (signed_argument X) ws λ x ws.
    reading (signed_argument Y) ws λ y ws.
    reading line_end ws λ _ _.
    Ok (call (root client id x y))

-- CLIENT ID OFFSET PIXEL..
abbrev pub paint_line : List (List ℕ) → Result PlainLine Problem
paint_line ws =
    reading (unsigned_argument Client) ws λ client ws.
    reading (unsigned_argument Id) ws λ id ws.
    reading (unsigned_argument Offset) ws λ offset ws.
    and_then (paint_pixels [] ws) λ pixels.
    Ok (call (paint client id offset pixels))

-- on|off
abbrev pub switch_line : List (List ℕ) → Result PlainLine Problem
switch_line ws =
    reading (either_word (codes "on") true (codes "off") false SwitchForm) ws λ on ws.
    reading line_end ws λ _ _.
    Ok (call (switch on))

-- TIME
abbrev pub frame_line : List (List ℕ) → Result PlainLine Problem
frame_line ws =
    reading (unsigned_argument Time) ws λ time ws.
    reading line_end ws λ _ _.
    Ok (call (frame time))
