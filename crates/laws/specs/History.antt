-- A history: the calls of a run, the newest first. What the rules make of it rests on the calls alone, never on what a core answered or wrote.
use Rattle.std.specs.Prelude.{◌≡◌, ℕ, Bool, false, not, ◌&&◌, List, [], ◌∷◌, is_some, Some, None, Option}
use Rattle.model.specs.declared.size.Size.{Size}
use Rattle.model.specs.Output.{accepted}
use Rattle.rules.specs.State.{Model, empty}
use Rattle.rules.specs.Call.{Call, paint_call, switch_call, frame_call, rule}

-- a call that is lent a pixel memory is lent one of n pixels
abbrev pub SameMemory : ℕ → Call → Type 0
SameMemory n (paint_call client id offset pixels memory) = memory ≡ n
SameMemory n (frame_call time memory places) = memory ≡ n
SameMemory n _ = Unit {0}

-- a switch is lent a presenter of that size; the rules of a frame do not ask for the size
abbrev pub SameSize : Size → Call → Type 0
SameSize s (switch_call on size places) = size ≡ s
SameSize s _ = Unit {0}

-- the time of a frame; another call has none
abbrev pub frame_time : Call → Option ℕ
frame_time (frame_call time memory places) = Some time
frame_time _ = None

-- whether a call is a switch to on
abbrev pub switches_on : Call → Bool
switches_on (switch_call on size places) = on
switches_on _ = false

-- size is that of the pixel memory; `empty` cuts it to what a core can have
module _ (size : ℕ) where
  -- what a core knows after a history
  abbrev pub model_after : List Call → Model
  model_after [] = empty size
  model_after (c ∷ cs) = (rule c (model_after cs)).next

  -- whether the rules accept the call c after the history cs
  abbrev pub accepts : Call → List Call → Bool
  accepts c cs = accepted (rule c (model_after cs)).answer

  -- a successful frame is one that the rules accept
  abbrev pub successful_frame : Call → List Call → Bool
  successful_frame c cs = is_some (frame_time c) && accepts c cs

  -- an accepted switch from off to on
  abbrev pub lights : Call → List Call → Bool
  lights c cs = switches_on c && (accepts c cs && not (model_after cs).on)
