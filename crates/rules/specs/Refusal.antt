-- A refused call alters nothing and sends nothing.
use Rattle.std.specs.Prelude.{◌≡◌, ℕ, Bool, List, [], length, ℤ, Err}
use Rattle.model.specs.declared.fault.Fault.{Fault}
use Rattle.model.specs.declared.size.Size.{Size}
use Rattle.rules.specs.State.{Model}
use Rattle.rules.specs.Call.{Call, request_call, buffer_call, root_call, paint_call, switch_call, frame_call, rule, painted}

-- if the call is refused, the core is as it was and there is no event
abbrev pub AltersNothing : Call → Type 0
AltersNothing c = (m : Model) (f : Fault) → (rule c m).answer ≡ Err f → ((rule c m).next ≡ m) × ((rule c m).events ≡ [])

pub record Refusals : Type 0 where
  pub request : (places client : ℕ) (bytes : List ℕ) → AltersNothing (request_call places client bytes)
  pub buffer : (client id first width height stride format : ℕ) → AltersNothing (buffer_call client id first width height stride format)
  pub root : (client id : ℕ) (x y : ℤ) → AltersNothing (root_call client id x y)
  pub paint : (client id offset : ℕ) (pixels : List ℕ) (memory : ℕ) → AltersNothing (paint_call client id offset pixels memory)
  pub switch : (on : Bool) (size : Size) (places : ℕ) → AltersNothing (switch_call on size places)
  pub frame : (time memory places : ℕ) → AltersNothing (frame_call time memory places)
  -- and the pixel memory is as it was
  pub paint_memory : (client id offset : ℕ) (pixels memory : List ℕ) (m : Model) (f : Fault)
      → (rule (paint_call client id offset pixels (length memory)) m).answer ≡ Err f → painted client id offset pixels memory m ≡ memory
