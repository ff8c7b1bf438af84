-- How the lists of code grow, which have room for so many: a full list stays as it is.
use Rattle.std.specs.Prelude.{ℕ, ◌+◌, ◌-◌, min, List, length, slice_set}
use Rattle.model.specs.declared.event.Event.{Event}
use Rattle.list.specs.Bounded.{pushed}
use Rattle.rules.specs.Run.{Grow}

-- an event list: lent places, of which the first are filled
pub record Sheet : Type 0 where
  pub places : List Event
  pub count : ℕ

abbrev pub noted : Sheet → Event → Sheet
noted s e = record { places = slice_set s.places s.count e; count = s.count + min 1 (length s.places - s.count) }

-- orders, roots and waiting holds have room for 32, callbacks for 64
abbrev pub bounded : Grow Sheet
bounded = record { sent = noted; ordered = pushed 32; rooted = pushed 32; waited = pushed 32; asked = pushed 64 }
