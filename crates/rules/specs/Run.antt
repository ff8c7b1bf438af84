-- The core in the midst of a call, and how its lists grow.
use Rattle.std.specs.Prelude.{ℕ, List, [], Some, None, Option}
use Rattle.std.specs.List.{push}
use Rattle.model.specs.declared.event.Event.{Event}
use Rattle.rules.specs.declared.callback.Callback.{Callback}
use Rattle.rules.specs.State.{Model, Surface, Waiting, surface_at}
use Rattle.rules.specs.Setters.{edit_surface}

-- how lists grow by one: E is what holds the events that were sent. The rules read `plain`; code whose lists have an end says how its own grow
pub record Grow (E : Type 0) : Type 0 where
  pub sent : E → Event → E
  pub ordered : List ℕ → ℕ → List ℕ
  pub rooted : List ℕ → ℕ → List ℕ
  pub waited : List Waiting → Waiting → List Waiting
  pub asked : List Callback → Callback → List Callback

-- by one more at the end, without a bound
abbrev pub plain : Grow (List Event)
plain = record { sent = push; ordered = push; rooted = push; waited = push; asked = push }

pub record Run (E : Type 0) : Type 0 where
  pub model : Model
  pub events : E

abbrev pub start : Model → Run (List Event)
start m = record { model = m; events = [] }

module _ {E : Type 0} where
  abbrev pub in_model : (Model → Model) → Run E → Run E
  in_model f r = record { model = f r.model; events = r.events }

  abbrev pub at : Run E → ℕ → Surface
  at r p = surface_at r.model p

  abbrev pub edit : ℕ → (Surface → Surface) → Run E → Run E
  edit p f r = in_model (edit_surface p f) r

  abbrev pub send : Grow E → Event → Run E → Run E
  send g e r = record { model = r.model; events = g.sent r.events e }

  -- an event of an object by its id, if the object lives
  abbrev pub send_living : Grow E → (ℕ → Event) → Option ℕ → Run E → Run E
  send_living g event None r = r
  send_living g event (Some id) r = send g (event id) r

-- the events
abbrev pub done : Callback → ℕ → Event
done k time = record { client = k.client; object = k.id; opcode = 0; value = time }

abbrev pub release : ℕ → ℕ → Event
release client id = record { client = client; object = id; opcode = 0; value = 0 }

abbrev pub delete_id : ℕ → ℕ → Event
delete_id client id = record { client = client; object = 1; opcode = 1; value = id }
