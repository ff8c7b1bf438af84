-- What a core knows.
use Rattle.std.specs.Prelude.{ℕ, ◌+◌, ◌*◌, min, Bool, false, List, [], ◌∷◌, ◌++◌, replicate, ℤ, pos, Some, None, Option}
use Rattle.rules.specs.declared.attach.Attach.{Attach}
use Rattle.rules.specs.declared.attach.Attach.TheVariants.{Nothing}
use Rattle.rules.specs.declared.buffer.Buffer.{Buffer}
use Rattle.rules.specs.declared.callback.Callback.{Callback}
use Rattle.rules.specs.declared.object.Object.{Object}
use Rattle.rules.specs.declared.object.ObjectKind.{ObjectKind}
use Rattle.rules.specs.declared.object.ObjectKind.TheVariants.{Display, Compositor, Subcompositor, Subsurface, InertSubsurface}
use Rattle.rules.specs.declared.role.Role.{Role}
use Rattle.rules.specs.Table.{record_at}

-- an order lists the surface's own place and those of its children, bottom first
pub record Pending : Type 0 where
  pub attach : Attach
  pub x : ℤ
  pub y : ℤ
  pub order : List ℕ

-- the hold is the place of a buffer record; a hold with a mark is on the glass, and the mark is its place in the scene that was shown
pub record Current : Type 0 where
  pub hold : Option ℕ
  pub mark : Option ℕ
  pub x : ℤ
  pub y : ℤ
  pub order : List ℕ

-- parent is a surface's place, object the place of its sub-surface object
pub record Surface : Type 0 where
  pub client : ℕ
  pub id : ℕ
  pub role : Option Role
  pub parent : Option ℕ
  pub object : Option ℕ
  pub sync : Bool
  pub pending : Pending
  pub cached : Attach
  pub current : Current

-- a hold that has ended while it was on the glass
pub record Waiting : Type 0 where
  pub buffer : ℕ
  pub mark : ℕ

-- a place of a table has a record, or is free
pub record Model : Type 0 where
  pub surfaces : List (Option Surface)
  pub buffers : List (Option Buffer)
  -- in the order in which they were asked for
  pub callbacks : List Callback
  pub objects : List (Option Object)
  -- places of surfaces, bottom first
  pub roots : List ℕ
  -- in the order in which they began to wait
  pub waiting : List Waiting
  pub on : Bool
  -- how many pixels the pixel memory has
  pub size : ℕ

-- a surface with nothing attached and no role, whose orders both list those places
abbrev pub bare_surface : ℕ → ℕ → List ℕ → Surface
bare_surface client id order =
    record {
      client = client;
      id = id;
      role = None;
      parent = None;
      object = None;
      sync = false;
      pending = record { attach = Nothing; x = pos 0; y = pos 0; order = order };
      cached = Nothing;
      current = record { hold = None; mark = None; x = pos 0; y = pos 0; order = order };
    }

-- what a place without a record is read as
abbrev pub no_surface : Surface
no_surface = bare_surface 0 0 []

abbrev pub no_buffer : Buffer
no_buffer = record { client = 0; id = None; first = 0; width = 0; height = 0; stride = 0; format = 0 }

abbrev pub no_object : Object
no_object = record { client = 0; id = 0; kind = Display }

-- how many surfaces and how many buffer records there can be
abbrev pub most : ℕ
most = 32

-- the place of an id in the table of objects: 256 for each of four clients
abbrev pub object_place : ℕ → ℕ → ℕ
object_place client id = client * 256 + id

-- the globals of a client, in the table of objects
abbrev pub globals : ℕ → List (Option Object)
globals client =
    None
    ∷ Some (record { client = client; id = 1; kind = Display })
    ∷ Some (record { client = client; id = 2; kind = Compositor })
    ∷ Some (record { client = client; id = 3; kind = Subcompositor })
    ∷ replicate 252 None

-- a new core with a pixel memory of so many pixels
abbrev pub empty : ℕ → Model
empty size =
    record {
      surfaces = replicate most None;
      buffers = replicate most None;
      callbacks = [];
      objects = globals 0 ++ globals 1 ++ globals 2 ++ globals 3;
      roots = [];
      waiting = [];
      on = false;
      size = min size 16_777_216;
    }

-- the records by their places
abbrev pub surface_at : Model → ℕ → Surface
surface_at m p = record_at no_surface m.surfaces p

abbrev pub buffer_at : Model → ℕ → Buffer
buffer_at m b = record_at no_buffer m.buffers b

-- how many pixels the span of a buffer record has
abbrev pub buffer_span : Buffer → ℕ
buffer_span b = b.stride * b.height

abbrev pub object_at : Model → ℕ → Object
object_at m k = record_at no_object m.objects k

-- the surface that a sub-surface object links to a parent; an inert one links none
abbrev pub linked_by : ObjectKind → Option ℕ
linked_by (Subsurface surface) = Some surface
linked_by _ = None

-- the surface that it belongs to, inert or not, while that lives
abbrev pub surface_of : ObjectKind → Option ℕ
surface_of (Subsurface surface) = Some surface
surface_of (InertSubsurface surface) = surface
surface_of _ = None
