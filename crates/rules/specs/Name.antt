-- Objects by client and id.
use Rattle.std.specs.Prelude.{ℕ, Bool, ◌&&◌, ◌||◌, is_some, Some, None, ok_or, Option, option_map, option_and_then, Result, ◌==◌, nat_lt}
use Rattle.std.specs.Option.{option_or}
use Rattle.list.specs.Place.{place}
use Rattle.model.specs.declared.fault.Fault.{Fault}
use Rattle.model.specs.declared.interface.Interface.{Interface}
use Rattle.model.specs.declared.interface.Interface.TheVariants as interface
use Rattle.model.specs.Fault.{fault}
use Rattle.rules.specs.declared.object.ObjectKind.{ObjectKind}
use Rattle.rules.specs.declared.object.ObjectKind.TheVariants.{Display, Compositor, Subcompositor, Subsurface, InertSubsurface}
use Rattle.rules.specs.State.{Model, object_at}
use Rattle.rules.specs.Table.{some_and, place_with}
use Rattle.rules.specs.Station.{refuse_if}

-- an object that an id names: a global or a sub-surface object by its place in the table of objects, any other by that of its record
pub data Named : Type 0 where
  object : ℕ → Named
  surface : ℕ → Named
  buffer : ℕ → Named
  callback : ℕ → Named

-- whether a record bears a client and an id
abbrev pub bears : ℕ → ℕ → ℕ → ℕ → Bool
bears client id c i = c == client && i == id

abbrev pub named : Model → ℕ → ℕ → Option Named
named m client id =
    option_or (option_map object (place_with (λ o. bears client id o.client o.id) m.objects))
    (option_or (option_map surface (place_with (λ s. bears client id s.client s.id) m.surfaces))
    (option_or (option_map buffer (place_with (λ b. some_and (bears client id b.client) b.id) m.buffers))
    (option_map callback (place (λ k. bears client id k.client k.id) m.callbacks))))

abbrev pub kind_interface : ObjectKind → Interface
kind_interface Display = interface.Display
kind_interface Compositor = interface.Compositor
kind_interface Subcompositor = interface.Subcompositor
kind_interface (Subsurface s) = interface.Subsurface
kind_interface (InertSubsurface s) = interface.Subsurface

abbrev pub interface_of : Model → Named → Interface
interface_of m (object k) = kind_interface (object_at m k).kind
interface_of m (surface p) = interface.Surface
interface_of m (buffer b) = interface.Buffer
interface_of m (callback k) = interface.Callback

abbrev pub place_of : Named → ℕ
place_of (object k) = k
place_of (surface p) = p
place_of (buffer b) = b
place_of (callback k) = k

-- station 4, number 8: a new id is from 4 to 255 and names no object
abbrev pub new_id : Model → ℕ → ℕ → ℕ → Result (Unit {0}) Fault
new_id m client word id = refuse_if (nat_lt id 4 || nat_lt 255 id || is_some (named m client id)) (fault 8 4 word)

-- the place of a surface, and of a buffer
abbrev pub as_surface : Named → Option ℕ
as_surface (surface p) = Some p
as_surface _ = None

abbrev pub as_buffer : Named → Option ℕ
as_buffer (buffer b) = Some b
as_buffer _ = None

-- station 4, number 9: an id names nothing, or an object of another interface
abbrev pub the_surface : Model → ℕ → ℕ → ℕ → Result ℕ Fault
the_surface m client word id = ok_or (option_and_then as_surface (named m client id)) (fault 9 4 word)

abbrev pub the_buffer : Model → ℕ → ℕ → ℕ → Result ℕ Fault
the_buffer m client word id = ok_or (option_and_then as_buffer (named m client id)) (fault 9 4 word)
