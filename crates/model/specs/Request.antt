-- The requests of each interface, and which of them an opcode and arguments ask for. The arguments are a body's words.
use Rattle.std.specs.Prelude.{ℕ, Bool, cond, List, length, ℤ, Some, None, Ok, Err, Option, Result, ◌==◌, slice_index}
use Rattle.model.specs.declared.fault.Fault.{Fault}
use Rattle.model.specs.declared.interface.Interface.{Interface}
use Rattle.model.specs.declared.interface.Interface.TheVariants.{Display, Compositor, Subcompositor, Surface, Subsurface, Buffer, Callback}
use Rattle.model.specs.declared.request.Request.{Request}
use Rattle.model.specs.declared.request.Request.TheVariants.{CreateSurface, GetSubsurface, SurfaceDestroy, Attach, Damage, Frame, Commit, SubsurfaceDestroy, SetPosition, PlaceAbove, PlaceBelow, SetSync, SetDesync, BufferDestroy}
use Rattle.model.specs.Fault.{fault}
use Rattle.model.specs.Word.{int}

-- whether the arguments are n words
abbrev pub exactly : ℕ → List ℕ → Bool
exactly n args = length args == n

-- what arguments that fit ask for
abbrev pub fitting : {A : Type 0} → Bool → A → Result A Fault
fitting fits a = cond fits (Ok a) (Err (fault 7 3 1))

-- the answer to an opcode that the interface does not list
abbrev pub unlisted : {A : Type 0} → Result A Fault
unlisted = Err (fault 6 3 1)

-- argument i as an id, as an id or none, which is 0, and as a signed number
abbrev pub id_at : List ℕ → ℕ → ℕ
id_at args i = slice_index args i

abbrev pub optional_id : ℕ → Option ℕ
optional_id w = cond (w == 0) None (Some w)

abbrev pub optional_id_at : List ℕ → ℕ → Option ℕ
optional_id_at args i = optional_id (slice_index args i)

abbrev pub int_at : List ℕ → ℕ → ℤ
int_at args i = int (slice_index args i)

abbrev pub compositor_request : ℕ → List ℕ → Result Request Fault
compositor_request opcode args = cond (opcode == 0) (fitting (exactly 1 args) (CreateSurface (id_at args 0))) unlisted

abbrev pub subcompositor_request : ℕ → List ℕ → Result Request Fault
subcompositor_request opcode args =
    cond (opcode == 1) (fitting (exactly 3 args) (GetSubsurface (id_at args 0) (id_at args 1) (id_at args 2))) unlisted

abbrev pub surface_request : ℕ → List ℕ → Result Request Fault
surface_request opcode args =
    cond (opcode == 0) (fitting (exactly 0 args) SurfaceDestroy)
    (cond (opcode == 1) (fitting (exactly 3 args) (Attach (optional_id_at args 0) (int_at args 1) (int_at args 2)))
    (cond (opcode == 2) (fitting (exactly 4 args) (Damage (int_at args 0) (int_at args 1) (int_at args 2) (int_at args 3)))
    (cond (opcode == 3) (fitting (exactly 1 args) (Frame (id_at args 0)))
    (cond (opcode == 6) (fitting (exactly 0 args) Commit) unlisted))))

abbrev pub subsurface_request : ℕ → List ℕ → Result Request Fault
subsurface_request opcode args =
    cond (opcode == 0) (fitting (exactly 0 args) SubsurfaceDestroy)
    (cond (opcode == 1) (fitting (exactly 2 args) (SetPosition (int_at args 0) (int_at args 1)))
    (cond (opcode == 2) (fitting (exactly 1 args) (PlaceAbove (id_at args 0)))
    (cond (opcode == 3) (fitting (exactly 1 args) (PlaceBelow (id_at args 0)))
    (cond (opcode == 4) (fitting (exactly 0 args) SetSync)
    (cond (opcode == 5) (fitting (exactly 0 args) SetDesync) unlisted)))))

abbrev pub buffer_request : ℕ → List ℕ → Result Request Fault
buffer_request opcode args = cond (opcode == 0) (fitting (exactly 0 args) BufferDestroy) unlisted

-- what an opcode with these arguments asks of an object with that interface
abbrev pub request_of : Interface → ℕ → List ℕ → Result Request Fault
request_of Display opcode args = unlisted
request_of Compositor opcode args = compositor_request opcode args
request_of Subcompositor opcode args = subcompositor_request opcode args
request_of Surface opcode args = surface_request opcode args
request_of Subsurface opcode args = subsurface_request opcode args
request_of Buffer opcode args = buffer_request opcode args
request_of Callback opcode args = unlisted
