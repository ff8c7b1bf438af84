-- The six calls: what each answers, which events it sends, and what the core knows then.
use Rattle.std.specs.Prelude.{ℕ, ◌+◌, Bool, true, false, cond, not, ◌&&◌, ◌||◌, List, [], length, ℤ, pos, Some, Ok, Err, ok_or, fold, filter, option_map, Result, ◌==◌, nat_eq, nat_lt, Option}
use Rattle.std.specs.List.{list_any, splice}
use Rattle.list.specs.Place.{place}
use Rattle.model.specs.declared.element.Element.{Element}
use Rattle.model.specs.declared.event.Event.{Event}
use Rattle.model.specs.declared.fault.Fault.{Fault}
use Rattle.model.specs.declared.size.Size.{Size}
use Rattle.model.specs.Buffer.{shaped}
use Rattle.model.specs.Fault.{fault}
use Rattle.model.specs.Output.{on_answer, show_answer}
use Rattle.rules.specs.declared.buffer.Buffer.{Buffer}
use Rattle.rules.specs.declared.callback.Callback.{Callback}
use Rattle.rules.specs.declared.role.Role.{Role}
use Rattle.rules.specs.declared.role.Role.TheVariants.{Root, Sub}
use Rattle.rules.specs.declared.stage.Stage.TheVariants.{Current}
use Rattle.rules.specs.State.{Model, Surface, surface_at, buffer_at, buffer_span}
use Rattle.rules.specs.Setters.{with_role, with_position, with_mark, with_surfaces, with_callbacks, with_roots, with_on, put_buffer}
use Rattle.rules.specs.Table.{records, free_place, each, without}
use Rattle.rules.specs.Run.{Grow, Run, plain, start, in_model, edit, send, done, delete_id}
use Rattle.rules.specs.Hold.{busy, sweep, end_waiting}
use Rattle.rules.specs.Callback.{same_stage}
use Rattle.rules.specs.Walk.{Shown, shown, element_at, scene}
use Rattle.rules.specs.Station.{◌>>=◌, refuse_if}
use Rattle.rules.specs.Name.{new_id, the_surface, the_buffer}
use Rattle.rules.specs.Ask.{asked, enough_places, known_client}
use Rattle.rules.specs.Carry.{carried, in_range}

-- what an accepted call does, or why it is refused
abbrev pub Step : Type 0
Step = Result (Run (List Event)) Fault

abbrev pub request : ℕ → ℕ → List ℕ → Model → Step
request places client bytes m = asked places client bytes m >>= λ found. carried plain found (start m)

-- buffer
-- whether the spans of two records meet: neither ends where the other begins, or before
abbrev pub overlap : Buffer → Buffer → Bool
overlap a b = nat_lt a.first (b.first + buffer_span b) && nat_lt b.first (a.first + buffer_span a)

-- whether the span of a new record leaves the pixel memory, or meets that of another record
abbrev pub misplaced : Model → Buffer → Bool
misplaced m new = nat_lt m.size (new.first + buffer_span new) || list_any (overlap new) (records m.buffers)

abbrev pub make_buffer : ℕ → ℕ → ℕ → ℕ → ℕ → ℕ → ℕ → Model → Step
make_buffer client id first width height stride format m =
    let new : Buffer = record { client = client; id = Some id; first = first; width = width; height = height; stride = stride; format = format } in
    known_client client >>= λ _.
    new_id m client 0 id >>= λ _.
    refuse_if (not (shaped (element_at (pos 0) (pos 0) new))) (fault 10 5 0) >>= λ _.
    ok_or (free_place m.buffers) (fault 14 7 0) >>= λ b.
    refuse_if (misplaced m new) (fault 15 8 0) >>= λ _.
    Ok (in_model (put_buffer b new) (start m))

-- root
abbrev pub is_sub : Option Role → Bool
is_sub (Some Sub) = true
is_sub _ = false

-- on top of the roots, a second time too
abbrev pub raise : {E : Type 0} → Grow E → ℕ → Run E → Run E
raise g p r = in_model (λ m. with_roots (g.rooted (without p m.roots) p) m) r

abbrev pub make_root : ℕ → ℕ → ℤ → ℤ → Model → Step
make_root client id x y m =
    known_client client >>= λ _.
    the_surface m client 0 id >>= λ p.
    refuse_if (not (in_range x && in_range y)) (fault 10 5 0) >>= λ _.
    refuse_if (is_sub (surface_at m p).role) (fault 11 6 0) >>= λ _.
    Ok (raise plain p (edit p (λ s. with_position x y (with_role (Some Root) s)) (start m)))

-- paint
abbrev pub right_memory : Model → ℕ → Result (Unit {0}) Fault
right_memory m memory = refuse_if (not (memory == m.size)) (fault 2 1 0)

-- the buffer that can be painted with count pixels from offset on
abbrev pub paintable : ℕ → ℕ → ℕ → ℕ → ℕ → Model → Result ℕ Fault
paintable client id offset count memory m =
    right_memory m memory >>= λ _.
    known_client client >>= λ _.
    the_buffer m client 0 id >>= λ b.
    refuse_if (nat_lt (buffer_span (buffer_at m b)) (offset + count)) (fault 10 5 0) >>= λ _.
    refuse_if (busy m b) (fault 16 8 0) >>= λ _.
    Ok b

abbrev pub paint : ℕ → ℕ → ℕ → ℕ → ℕ → Model → Step
paint client id offset count memory m = paintable client id offset count memory m >>= λ _. Ok (start m)

-- the pixels stand in the span of the buffer that can be painted, from offset on
abbrev pub painted_by : Model → ℕ → List ℕ → List ℕ → Result ℕ Fault → List ℕ
painted_by m offset pixels memory (Ok b) =
    let n = (buffer_at m b).first + offset in splice memory n (n + length pixels) pixels
painted_by m offset pixels memory (Err f) = memory

-- the pixel memory after a paint
abbrev pub painted : ℕ → ℕ → ℕ → List ℕ → List ℕ → Model → List ℕ
painted client id offset pixels memory m =
    painted_by m offset pixels memory (paintable client id offset (length pixels) (length memory) m)

-- the hold of the surface at p is on the glass if it is among those that are shown, at that place of the scene
abbrev pub marked : List Shown → ℕ → Surface → Surface
marked all p s = with_mark (place (λ t. nat_eq t.surface p) all) s

abbrev pub mark : {E : Type 0} → List Shown → Run E → Run E
mark all r = in_model (λ m. with_surfaces (each (λ p. option_map (marked all p)) m.surfaces) m) r

-- switch, on an output that is on or not; of a presenter the core knows its size
abbrev pub go_dark : {E : Type 0} → Grow E → Run E → Run E
go_dark g r = in_model (with_on false) (mark [] (end_waiting g r))

abbrev pub switched : {E : Type 0} → Grow E → Bool → Bool → Run E → Run E
switched g on true r = in_model (with_on true) r
switched g on false r = cond on (go_dark g r) r

abbrev pub can_switch : Bool → Size → Result (Unit {0}) Fault
can_switch true size = on_answer size
can_switch false size = Ok tt

abbrev pub switch : Bool → Bool → Size → ℕ → Model → Step
switch on turn size places m =
    enough_places places >>= λ _.
    can_switch turn size >>= λ _.
    Ok (switched plain on turn (start m))

-- frame
abbrev pub is_current : Callback → Bool
is_current k = same_stage k.stage Current

abbrev pub answer_one : {E : Type 0} → Grow E → ℕ → Run E → Callback → Run E
answer_one g time r k = send g (delete_id k.client k.id) (send g (done k time) r)

-- each current callback is answered and ends, in the list's order
abbrev pub answer_current : {E : Type 0} → Grow E → ℕ → Run E → Run E
answer_current g time r =
    in_model (λ m. with_callbacks (filter (λ k. not (is_current k)) m.callbacks) m)
    (fold (answer_one g time) r (filter is_current r.model.callbacks))

-- after the scene was shown: the waits end, callbacks are answered, and the holds that are shown are marked
abbrev pub after_showing : {E : Type 0} → Grow E → ℕ → List Shown → Run E → Run E
after_showing g time all r = mark all (answer_current g time (end_waiting g r))

abbrev pub frame : Bool → ℕ → ℕ → ℕ → Model → Step
frame on time memory places m =
    enough_places places >>= λ _.
    right_memory m memory >>= λ _.
    show_answer on (scene m) memory >>= λ _.
    Ok (after_showing plain time (shown m) (start m))

-- the outcome of a call
pub record Outcome : Type 0 where
  pub answer : Result (Unit {0}) Fault
  pub events : List Event
  pub next : Model

-- a refusal alters nothing and sends nothing; after any other call, a buffer record that is not needed any more goes
abbrev pub outcome : Model → Step → Outcome
outcome m (Ok r) = record { answer = Ok tt; events = r.events; next = sweep r.model }
outcome m (Err f) = record { answer = Err f; events = []; next = m }

-- a call with its arguments: of an event list and a pixel memory the length, of the presenter the size
pub data Call : Type 0 where
  request_call : (places client : ℕ) (bytes : List ℕ) → Call
  buffer_call : (client id first width height stride format : ℕ) → Call
  root_call : (client id : ℕ) (x y : ℤ) → Call
  paint_call : (client id offset : ℕ) (pixels : List ℕ) (memory : ℕ) → Call
  switch_call : (on : Bool) (size : Size) (places : ℕ) → Call
  frame_call : (time memory places : ℕ) → Call

abbrev pub step : Call → Model → Step
step (request_call places client bytes) m = request places client bytes m
step (buffer_call client id first width height stride format) m = make_buffer client id first width height stride format m
step (root_call client id x y) m = make_root client id x y m
step (paint_call client id offset pixels memory) m = paint client id offset (length pixels) memory m
step (switch_call on size places) m = switch m.on on size places m
step (frame_call time memory places) m = frame m.on time memory places m

abbrev pub rule : Call → Model → Outcome
rule c m = outcome m (step c m)

-- what a call asks of the presenter, once its own checks are passed; the presenter makes the last check itself
pub data Presents : Type 0 where
  nothing : Presents
  switch_on : Presents
  switch_off : Presents
  show : List Element → Presents

abbrev pub once_passed : Result (Unit {0}) Fault → Presents → Presents
once_passed (Ok u) asks = asks
once_passed (Err f) asks = nothing

abbrev pub presents : Call → Model → Presents
presents (switch_call on size places) m = once_passed (enough_places places) (cond on switch_on switch_off)
presents (frame_call time memory places) m = once_passed (enough_places places >>= λ _. right_memory m memory) (show (scene m))
presents _ m = nothing

-- the core after calls, from a new one with a pixel memory of so many pixels
abbrev pub after : Model → List Call → Model
after m calls = fold (λ n c. (rule c n).next) m calls
