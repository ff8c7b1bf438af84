-- Calls as a client writes them, and runs of them.
use Rattle.std.specs.Prelude.{ℕ, ◌+◌, ◌*◌, ◌/◌, ◌%◌, true, List, [], ◌∷◌, length, pos, Some, None, Option, option_map, Result}
use Rattle.std.specs.Result.{result_err}
use Rattle.model.specs.declared.element.Element.{Element}
use Rattle.model.specs.declared.event.Event.{Event}
use Rattle.model.specs.declared.fault.Fault.{Fault}
use Rattle.rules.specs.State.{Model, empty}
use Rattle.rules.specs.Call.{Call, request_call, buffer_call, root_call, switch_call, frame_call, rule}

-- a message's bytes, from its words
abbrev pub bytes : List ℕ → List ℕ
bytes [] = []
bytes (w ∷ ws) = w % 256 ∷ w / 256 % 256 ∷ w / 0x1_0000 % 256 ∷ w / 0x100_0000 ∷ bytes ws

-- a message of client 0 to one of its objects, with room for 160 events
abbrev pub ask : ℕ → ℕ → List ℕ → Call
ask object opcode args = request_call 160 0 (bytes (object ∷ (opcode + 0x1_0000 * (8 + 4 * length args)) ∷ args))

abbrev pub create_surface : ℕ → Call
create_surface id = ask 2 0 (id ∷ [])

abbrev pub get_subsurface : ℕ → ℕ → ℕ → Call
get_subsurface id surface parent = ask 3 1 (id ∷ surface ∷ parent ∷ [])

abbrev pub attach : ℕ → ℕ → Call
attach surface buffer = ask surface 1 (buffer ∷ 0 ∷ 0 ∷ [])

abbrev pub ask_frame : ℕ → ℕ → Call
ask_frame surface id = ask surface 3 (id ∷ [])

abbrev pub commit : ℕ → Call
commit surface = ask surface 6 []

abbrev pub set_position : ℕ → ℕ → ℕ → Call
set_position object x y = ask object 1 (x ∷ y ∷ [])

abbrev pub set_desync : ℕ → Call
set_desync object = ask object 5 []

-- a buffer of 2 × 2 pixels without alpha
abbrev pub make_buffer : ℕ → ℕ → Call
make_buffer id first = buffer_call 0 id first 2 2 2 1

abbrev pub root : ℕ → Call
root id = root_call 0 id (pos 0) (pos 0)

abbrev pub switch_on : Call
switch_on = switch_call true (record { width = 8; height = 8 }) 160

abbrev pub frame : ℕ → Call
frame time = frame_call time 1000 160

-- attach a buffer and commit
abbrev pub show : ℕ → ℕ → List Call
show surface buffer = attach surface buffer ∷ commit surface ∷ []

abbrev pub new_core : Model
new_core = empty 1000

-- what a call answers: the number of its refusal, if it is refused, and its events
abbrev pub Told : Type 0
Told = Option ℕ × List Event

abbrev pub refusal : Result (Unit {0}) Fault → Option ℕ
refusal answer = option_map (λ f. f.number) (result_err answer)

-- what each of the calls answers
abbrev pub told : Model → List Call → List Told
told m [] = []
told m (c ∷ cs) = (refusal (rule c m).answer, (rule c m).events) ∷ told (rule c m).next cs

-- accepted without an event, refused, and accepted with one release or with a callback answered
abbrev pub quiet : Told
quiet = (None, [])

abbrev pub refused : ℕ → Told
refused n = (Some n, [])

abbrev pub event : ℕ → ℕ → ℕ → Event
event object opcode value = record { client = 0; object = object; opcode = opcode; value = value }

abbrev pub releases : ℕ → Told
releases buffer = (None, event buffer 0 0 ∷ [])

abbrev pub answers : ℕ → ℕ → Told
answers callback time = (None, event callback 0 time ∷ event 1 1 callback ∷ [])

-- the element of a buffer that `make_buffer` made, at 0, 0
abbrev pub element : ℕ → Element
element first = record { x = pos 0; y = pos 0; first = first; width = 2; height = 2; stride = 2; format = 1 }
