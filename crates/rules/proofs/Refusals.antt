-- The first fault of a call is its whole outcome.
use Rattle.std.proofs.Common.{◌≡◌, ℕ, List, [], length, Ok, Err, Result, refl, arith}
use Rattle.model.specs.declared.fault.Fault.{Fault}
use Rattle.rules.specs.State.{Model}
use Rattle.rules.specs.Run.{start}
use Rattle.rules.specs.Station.{◌>>=◌}
use Rattle.rules.specs.Call.{Step, Call, request_call, buffer_call, root_call, paint_call, switch_call, frame_call, paintable, painted_by, outcome, step}
use Rattle.rules.specs.Refusal.{AltersNothing, Refusals}

accepted_refused : {A : Type 0} (a : A) (f : Fault) → ◌≡◌ {A = Result A Fault} (Ok a) (Err f) → ⊥
accepted_refused a f e = let z : ◌≡◌ {A = ℕ} 0 1 = cc in omega arith

nothing_done : (m : Model) (s : Step) (f : Fault) → (outcome m s).answer ≡ Err f → ((outcome m s).next ≡ m) × ((outcome m s).events ≡ [])
nothing_done m (Ok r) f e = absurd (accepted_refused tt f e)
nothing_done m (Err g) f e = (refl, refl)

alters_nothing : (c : Call) → AltersNothing c
alters_nothing c m f e = nothing_done m (step c m) f e

nothing_painted : (m : Model) (offset : ℕ) (pixels memory : List ℕ) (b : Result ℕ Fault) (f : Fault) → (outcome m (b >>= λ _. Ok (start m))).answer ≡ Err f → painted_by m offset pixels memory b ≡ memory
nothing_painted m offset pixels memory (Ok b) f e = absurd (accepted_refused tt f e)
nothing_painted m offset pixels memory (Err g) f e = refl

pub refusals : Refusals
refusals =
    record {
      request = λ places client bytes. alters_nothing (request_call places client bytes);
      buffer = λ client id first width height stride format. alters_nothing (buffer_call client id first width height stride format);
      root = λ client id x y. alters_nothing (root_call client id x y);
      paint = λ client id offset pixels memory. alters_nothing (paint_call client id offset pixels memory);
      switch = λ on size places. alters_nothing (switch_call on size places);
      frame = λ time memory places. alters_nothing (frame_call time memory places);
      paint_memory = λ client id offset pixels memory m f e.
          nothing_painted m offset pixels memory (paintable client id offset (length pixels) (length memory) m) f e;
    }
