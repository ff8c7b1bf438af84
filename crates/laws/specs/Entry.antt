-- What a core wrote in a run. Only `going`, `received` and `RightValues` look at it.
use Rattle.std.specs.Prelude.{◌≡◌, ℕ, ◌+◌, ◌&&◌, List, [], ◌∷◌, map, Some, None, count_by, Option, option_and_then, ◌==◌}
use Rattle.std.specs.List.{AllByRecursion}
use Rattle.model.specs.declared.event.Event.{Event}
use Rattle.rules.specs.Call.{Call}
use Rattle.laws.specs.History.{frame_time}
use Rattle.laws.specs.Object.{Kind, buffer, callback, Made, is_object, last_object}

-- a call of a run, and the events that the core wrote and counted in it
pub record Entry : Type 0 where
  pub call : Call
  pub events : List Event

abbrev pub calls : List Entry → List Call
calls h = map (λ e. e.call) h

-- the value that an opcode 0 event has, in the call c, if it goes to an object of that kind: a release has 0, a done has the time of the frame, and no other kind gets one
abbrev pub value_for : Call → Kind → Option ℕ
value_for c buffer = Some 0
value_for c (callback s) = frame_time c
value_for c _ = None

abbrev pub value_to : Call → Option Made → Option ℕ
value_to c object = option_and_then (λ o. value_for c o.kind) object

module _ (size : ℕ) where
  -- the object that an event goes to: the last one that was made with its client and id, by the same call too
  abbrev pub receiver : List Call → Event → Option Made
  receiver cs e = last_object size cs e.client e.object

  -- how many of the events are opcode 0 events that go to o: releases of a buffer, dones of a callback
  abbrev pub going : Made → List Call → List Event → ℕ
  going o cs events = count_by (λ e. (e.opcode == 0) && is_object o (receiver cs e)) events

  -- how many the whole run has sent to o
  abbrev pub received : Made → List Entry → ℕ
  received o [] = 0
  received o (e ∷ h) = going o (calls (e ∷ h)) e.events + received o h

  -- each opcode 0 event of the newest call has the value that its receiver's kind asks for
  abbrev pub RightValues : Call → List Call → List Event → Type 0
  RightValues c cs events = AllByRecursion (λ e. e.opcode ≡ 0 → value_to c (receiver (c ∷ cs) e) ≡ Some e.value) events
