-- What a message asks for, with its objects found.
use Rattle.std.specs.Prelude.{ℕ, Bool, true, false, List, ℤ, Some, None, Ok, ok_or, Option, Result, nat_lt}
use Rattle.model.specs.declared.fault.Fault.{Fault}
use Rattle.model.specs.declared.request.Request.{Request}
use Rattle.model.specs.declared.request.Request.TheVariants.{CreateSurface, GetSubsurface, SurfaceDestroy, Attach as AttachBuffer, Damage, Frame, Commit, SubsurfaceDestroy, SetPosition, PlaceAbove, PlaceBelow, SetSync, SetDesync, BufferDestroy}
use Rattle.model.specs.Fault.{fault}
use Rattle.model.specs.Message.{header_of, body_of, header_answer}
use Rattle.model.specs.Request.{request_of}
use Rattle.model.specs.Word.{words}
use Rattle.rules.specs.declared.attach.Attach.{Attach}
use Rattle.rules.specs.declared.attach.Attach.TheVariants.{Null, Buffer as Held}
use Rattle.rules.specs.State.{Model, object_at, linked_by}
use Rattle.rules.specs.Station.{◌>>=◌, refuse_if}
use Rattle.rules.specs.Name.{named, interface_of, place_of, new_id, the_surface, the_buffer}

-- a request whose objects are found, by the places of their records. The surface of a sub-surface object is there unless it is inert
pub data Found : Type 0 where
  create_surface : (client id : ℕ) → Found
  get_subsurface : (client id surface parent : ℕ) → Found
  destroy_surface : (surface : ℕ) → Found
  attach : (surface : ℕ) (attach : Attach) (x y : ℤ) → Found
  damage : Found
  ask_frame : (client surface id : ℕ) → Found
  commit_surface : (surface : ℕ) → Found
  destroy_subsurface : (object : ℕ) → Found
  set_position : (surface : Option ℕ) (x y : ℤ) → Found
  place_beside : (over : Bool) (surface : Option ℕ) (sibling : ℕ) → Found
  set_sync : (surface : Option ℕ) → Found
  set_desync : (surface : Option ℕ) → Found
  destroy_buffer : (buffer : ℕ) → Found

-- the surface of the sub-surface object at k, unless that is inert
abbrev pub linked : Model → ℕ → Option ℕ
linked m k = linked_by (object_at m k).kind

-- none stands for null
abbrev pub the_attach : Model → ℕ → Option ℕ → Result Attach Fault
the_attach m client None = Ok Null
the_attach m client (Some id) = the_buffer m client 2 id >>= λ b. Ok (Held b)

-- station 4: the ids among the arguments, where p is the place of the object that is asked
abbrev pub with_objects_found : Model → ℕ → ℕ → Request → Result Found Fault
with_objects_found m client p (CreateSurface id) = new_id m client 2 id >>= λ _. Ok (create_surface client id)
with_objects_found m client p (GetSubsurface id s q) =
    new_id m client 2 id >>= λ _. the_surface m client 3 s >>= λ surface. the_surface m client 4 q >>= λ parent. Ok (get_subsurface client id surface parent)
with_objects_found m client p SurfaceDestroy = Ok (destroy_surface p)
with_objects_found m client p (AttachBuffer buffer x y) = the_attach m client buffer >>= λ a. Ok (attach p a x y)
with_objects_found m client p (Damage x y w h) = Ok damage
with_objects_found m client p (Frame id) = new_id m client 2 id >>= λ _. Ok (ask_frame client p id)
with_objects_found m client p Commit = Ok (commit_surface p)
with_objects_found m client p SubsurfaceDestroy = Ok (destroy_subsurface p)
with_objects_found m client p (SetPosition x y) = Ok (set_position (linked m p) x y)
with_objects_found m client p (PlaceAbove s) = the_surface m client 2 s >>= λ by. Ok (place_beside true (linked m p) by)
with_objects_found m client p (PlaceBelow s) = the_surface m client 2 s >>= λ by. Ok (place_beside false (linked m p) by)
with_objects_found m client p SetSync = Ok (set_sync (linked m p))
with_objects_found m client p SetDesync = Ok (set_desync (linked m p))
with_objects_found m client p BufferDestroy = Ok (destroy_buffer p)

-- station 1: an event list has at least 160 places
abbrev pub enough_places : ℕ → Result (Unit {0}) Fault
enough_places places = refuse_if (nat_lt places 160) (fault 1 1 0)

-- station 2
abbrev pub known_client : ℕ → Result (Unit {0}) Fault
known_client client = refuse_if (nat_lt 3 client) (fault 3 2 0)

-- stations 1 to 4 of a request
abbrev pub asked : ℕ → ℕ → List ℕ → Model → Result Found Fault
asked places client bytes m =
    enough_places places >>= λ _.
    known_client client >>= λ _.
    header_answer (header_of bytes) (body_of bytes) >>= λ header.
    ok_or (named m client header.object) (fault 5 3 0) >>= λ n.
    request_of (interface_of m n) header.opcode (words (body_of bytes)) >>= λ request.
    with_objects_found m client (place_of n) request
