-- What a recording says, in plain values.
use Rattle.std.specs.Prelude.{ℕ, Bool, List, map, ℤ, vec_items}
use Rattle.recording.specs.declared.content.Call.{Call}
use Rattle.recording.specs.declared.content.Call.TheVariants.{Request, Buffer, Root, Paint, Switch, Frame}
use Rattle.recording.specs.declared.content.Entry.{Entry}
use Rattle.recording.specs.declared.content.Line.{Line}
use Rattle.recording.specs.declared.content.Line.TheVariants.{Empty, Places, Call as CallLine}

-- one call with its arguments
pub data PlainCall : Type 0 where
  request : (client : ℕ) (message : List ℕ) → PlainCall
  buffer : (client id first width height stride format : ℕ) → PlainCall
  root : (client id : ℕ) (x y : ℤ) → PlainCall
  paint : (client id offset : ℕ) (pixels : List ℕ) → PlainCall
  switch : (on : Bool) → PlainCall
  frame : (time : ℕ) → PlainCall

-- a call, its line and the places of its list of events
pub record PlainEntry : Type 0 where
  pub line : ℕ
  pub places : ℕ
  pub call : PlainCall

abbrev pub plain_call : Call → PlainCall
plain_call (Request client message) = request client (vec_items message)
plain_call (Buffer client id first width height stride format) = buffer client id first width height stride format
plain_call (Root client id x y) = root client id x y
plain_call (Paint client id offset pixels) = paint client id offset (vec_items pixels)
plain_call (Switch on) = switch on
plain_call (Frame time) = frame time

abbrev pub plain_entry : Entry → PlainEntry
plain_entry entry = record { line = entry.line; places = entry.places; call = plain_call entry.call }

abbrev pub plain_entries : List Entry → List PlainEntry
plain_entries entries = map plain_entry entries

-- what a line after the console's says: nothing, the places of later event lists, or a call
pub data PlainLine : Type 0 where
  empty : PlainLine
  places : ℕ → PlainLine
  call : PlainCall → PlainLine

abbrev pub plain_line : Line → PlainLine
plain_line Empty = empty
plain_line (Places n) = places n
plain_line (CallLine c) = call (plain_call c)
