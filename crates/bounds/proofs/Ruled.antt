-- Every call keeps a core sound, and sends at most 160 events.
use Rattle.std.proofs.Common.{◌≡◌, ℕ, ◌+◌, ◌*◌, ◌<◌, ◌≤◌, Bool, true, false, not, ◌&&◌, List, [], ◌∷◌, ◌++◌, length, ℤ, Ok, Err, fold, filter, sym, refl, ap, ◌∙◌, subst, inl, arith, Some, pos, Option, option_map, unwrap_or, None}
use Rattle.std.proofs.ByRecursion.{All-push}
use Rattle.std.proofs.lemmas.List.{length_push}
use Rattle.std.proofs.lemmas.List.Sums.{length-filter, count_by-le-length}
use Rattle.std.proofs.lemmas.Bool.{cond_both}
use Rattle.model.specs.declared.size.Size.{Size}
use Rattle.model.specs.Buffer.{shaped}
use Rattle.model.specs.Output.{show_answer}
use Rattle.rules.specs.declared.buffer.Buffer.{Buffer}
use Rattle.rules.specs.declared.callback.Callback.{Callback}
use Rattle.rules.specs.declared.role.Role.TheVariants.{Root}
use Rattle.rules.specs.State.{Model, Surface, most, no_surface, surface_at}
use Rattle.rules.specs.Setters.{with_role, with_position, with_waiting, with_callbacks, with_surfaces}
use Rattle.rules.specs.Run.{plain, start, edit, done, delete_id}
use Rattle.rules.specs.Hold.{sweep, end_waiting}
use Rattle.rules.specs.Table.{each_from, without, free_place}
use Rattle.rules.specs.Walk.{Shown, shown, scene, element_at}
use Rattle.rules.specs.Name.{new_id, the_surface}
use Rattle.rules.specs.Ask.{enough_places, known_client}
use Rattle.rules.specs.Carry.{in_range}
use Rattle.rules.specs.Call.{Step, misplaced, make_buffer, is_sub, raise, make_root, right_memory, paintable, paint, marked, go_dark, switched, can_switch, switch, is_current, answer_one, answer_current, after_showing, frame, outcome, Call, request_call, buffer_call, root_call, paint_call, switch_call, frame_call, step, rule}
use Rattle.bounds.specs.Sound.{Sound, Roots}
use Rattle.bounds.proofs.Tables.{each_related, each_length, sum_ones, without_member}
use Rattle.bounds.proofs.Pigeons.{once_added}
use Rattle.bounds.proofs.Steps.{Plain, LinkedAlike, alike_same, mark_one, one_most, edit_keeps, end_waiting_model, end_waiting_events}
use Rattle.bounds.proofs.Trees.{tree_alike}
use Rattle.bounds.proofs.Spans.{spans_added, spans_swept}
use Rattle.bounds.proofs.Stations.{Accepts, then, then_unless, then_found, surface_named}
use Rattle.bounds.proofs.Ended.{roots_without}
use Rattle.bounds.proofs.Kept.{Fine, fine_keeps, unchanged_fine}
use Rattle.bounds.proofs.Requested.{request_fine}

-- buffer
buffer_fine : (client id first width height stride format : ℕ) (m : Model) → Sound m
    → Accepts Fine (make_buffer client id first width height stride format m)
buffer_fine client id first width height stride format m a =
    let new : Buffer =
    record { client = client; id = Some id; first = first; width = width; height = height; stride = stride; format = format } in
    then Fine (known_client client) _ λ _ _.
    then Fine (new_id m client 0 id) _ λ _ _.
    then_unless Fine (not (shaped (element_at (pos 0) (pos 0) new))) _ _ λ _.
    then_found Fine (free_place m.buffers) _ _ λ b _.
    then_unless Fine (misplaced m new) _ _ λ e.
    record {
      sound = record { tree = a.tree; spans = spans_added m b new a.spans e; glass = a.glass; roots = a.roots; callbacks = a.callbacks };
      events = omega arith;
    }

-- root
pub raised : (p : ℕ) (ps : List ℕ) → p < most → Roots ps → Roots (without p ps ++ p ∷ [])
raised p ps h a =
    let rest = roots_without p ps a in
    record {
      once = once_added (without p ps) p rest.once (λ m. (without_member p ps p m).1 refl);
      places = All-push (λ q. q < most) (without p ps) p rest.places h;
    }

rooted : (m : Model) (p : ℕ) (x y : ℤ) → p < most → Sound m → Fine (raise plain p (edit p (λ s. with_position x y (with_role (Some Root) s)) (start m)))
rooted m p x y h a =
    let f : Surface → Surface = λ s. with_position x y (with_role (Some Root) s) in
    let b = fine_keeps 0 m (edit p f (start m)) a (omega arith)
    (edit_keeps 0 p f (start m) (record { id = refl; parent = refl; object = refl; pending = refl; current = inl refl }) (omega arith) (omega arith)) in
    record {
      sound = record { tree = b.sound.tree; spans = b.sound.spans; glass = b.sound.glass; roots = raised p m.roots h a.roots; callbacks = b.sound.callbacks };
      events = omega arith;
    }

root_fine : (client id : ℕ) (x y : ℤ) (m : Model) → Sound m → Accepts Fine (make_root client id x y m)
root_fine client id x y m a =
    then Fine (known_client client) _ λ _ _.
    then Fine (the_surface m client 0 id) _ λ p e.
    then_unless Fine (not (in_range x && in_range y)) _ _ λ _.
    then_unless Fine (is_sub (surface_at m p).role) _ _ λ _.
    rooted m p x y (omega (arith, (surface_named m client 0 id p e).within, a.tree.orders.places)) a

paint_fine : (client id offset count memory : ℕ) (m : Model) → Sound m → Accepts Fine (paint client id offset count memory m)
paint_fine client id offset count memory m a = then Fine (paintable client id offset count memory m) _ λ _ _. unchanged_fine m a

abbrev Alike : Option Surface → Option Surface → Type 0
Alike o u = LinkedAlike (unwrap_or o no_surface) (unwrap_or u no_surface)

marked_alike : (all : List Shown) (p : ℕ) (o : Option Surface) → Alike o (option_map (marked all p) o)
marked_alike all p None = alike_same no_surface
marked_alike all p (Some s) = record { id = refl; parent = refl; object = refl; pending = refl; current = inl refl }

abbrev marked_model : List Shown → Model → Model
marked_model all m = with_surfaces (each_from (λ p. option_map (marked all p)) 0 m.surfaces) m

marked_sound : (all : List Shown) (ks : List Callback) (m : Model) → Sound m → length ks ≤ length m.callbacks → Sound (marked_model all (with_callbacks ks (with_waiting [] m)))
marked_sound all ks m a h =
    let t = m.surfaces in
    let f : ℕ → Option Surface → Option Surface = λ p. option_map (marked all p) in
    let u = each_from f 0 t in
    record {
      tree = tree_alike t u m.objects (each_length f 0 t) (each_related None Alike (alike_same no_surface) f (marked_alike all) 0 t) a.tree;
      spans = a.spans;
      glass = omega (arith, sum_ones mark_one (λ s. one_most s.current.mark) u, each_length f 0 t, a.tree.orders.places);
      roots = a.roots;
      callbacks = omega (arith, h, a.callbacks);
    }

-- switch
dark_fine : (m : Model) → Sound m → Fine (go_dark plain (start m))
dark_fine m a =
    let s = subst (λ (n : Model). Sound (marked_model [] n)) (sym (end_waiting_model (start m))) (marked_sound [] m.callbacks m a (omega arith)) in
    record {
      sound = record { tree = s.tree; spans = s.spans; glass = s.glass; roots = s.roots; callbacks = s.callbacks };
      events = omega (arith, end_waiting_events (start m), a.glass);
    }

switched_fine : (on turn : Bool) (m : Model) → Sound m → Fine (switched plain on turn (start m))
switched_fine on true m a =
    record { sound = record { tree = a.tree; spans = a.spans; glass = a.glass; roots = a.roots; callbacks = a.callbacks }; events = omega arith }
switched_fine on false m a = cond_both on (go_dark plain (start m)) (start m) Fine (λ _. dark_fine m a) (λ _. unchanged_fine m a)

switch_fine : (on turn : Bool) (size : Size) (places : ℕ) (m : Model) → Sound m → Accepts Fine (switch on turn size places m)
switch_fine on turn size places m a =
    then Fine (enough_places places) _ λ _ _.
    then Fine (can_switch turn size) _ λ _ _.
    switched_fine on turn m a

-- frame
answers_model : (time : ℕ) (ks : List Callback) (r : Plain) → (fold (answer_one plain time) r ks).model ≡ r.model
answers_model time [] r = refl
answers_model time (k ∷ ks) r = answers_model time ks (answer_one plain time r k)

answers_events : (time : ℕ) (ks : List Callback) (r : Plain) → length (fold (answer_one plain time) r ks).events ≡ length r.events + 2 * length ks
answers_events time [] r = omega arith
answers_events time (k ∷ ks) r =
    let one_more = r.events ++ done k time ∷ [] in
    omega (arith, answers_events time ks (answer_one plain time r k), length_push r.events (done k time), length_push one_more (delete_id k.client k.id))

abbrev unanswered : List Callback → List Callback
unanswered ks = filter (λ k. not (is_current k)) ks

kept_fewer : (test : Callback → Bool) (ks : List Callback) → length (filter test ks) ≤ length ks
kept_fewer test ks = omega (arith, length-filter test ks, count_by-le-length test ks)

framed_model : (time : ℕ) (m : Model) → (answer_current plain time (end_waiting plain (start m))).model ≡ with_callbacks (unanswered m.callbacks) (with_waiting [] m)
framed_model time m =
    let w = end_waiting plain (start m) in
    ap (λ (n : Model). with_callbacks (unanswered n.callbacks) n) (answers_model time (filter is_current w.model.callbacks) w ∙ end_waiting_model (start m))

framed_fine : (time : ℕ) (all : List Shown) (m : Model) → Sound m → Fine (after_showing plain time all (start m))
framed_fine time all m a =
    let w = end_waiting plain (start m) in
    let answered = filter is_current w.model.callbacks in
    record {
      sound = subst (λ (n : Model). Sound (marked_model all n)) (sym (framed_model time m)) (marked_sound all (unanswered m.callbacks) m a (kept_fewer (λ k. not (is_current k)) m.callbacks));
      events = omega (arith, answers_events time answered w, end_waiting_events (start m), a.glass, kept_fewer is_current w.model.callbacks, ap (λ (n : Model). length n.callbacks) (end_waiting_model (start m)), a.callbacks);
    }

frame_fine : (on : Bool) (time memory places : ℕ) (m : Model) → Sound m → Accepts Fine (frame on time memory places m)
frame_fine on time memory places m a =
    then Fine (enough_places places) _ λ _ _.
    then Fine (right_memory m memory) _ λ _ _.
    then Fine (show_answer on (scene m) memory) _ λ _ _.
    framed_fine time (shown m) m a

step_fine : (c : Call) (m : Model) → Sound m → Accepts Fine (step c m)
step_fine (request_call places client bytes) m a = request_fine places client bytes m a
step_fine (buffer_call client id first width height stride format) m a = buffer_fine client id first width height stride format m a
step_fine (root_call client id x y) m a = root_fine client id x y m a
step_fine (paint_call client id offset pixels memory) m a = paint_fine client id offset (length pixels) memory m a
step_fine (switch_call on size places) m a = switch_fine m.on on size places m a
step_fine (frame_call time memory places) m a = frame_fine m.on time memory places m a

-- buffer records go at the end of a call
swept_sound : (m : Model) → Sound m → Sound (sweep m)
swept_sound m a = record { tree = a.tree; spans = spans_swept m a.spans; glass = a.glass; roots = a.roots; callbacks = a.callbacks }

outcome_sound : (m : Model) (s : Step) → Sound m → Accepts Fine s → Sound (outcome m s).next
outcome_sound m (Ok r) a h = swept_sound r.model h.sound
outcome_sound m (Err f) a h = a

outcome_events : (m : Model) (s : Step) → Accepts Fine s → length (outcome m s).events ≤ 160
outcome_events m (Ok r) h = h.events
outcome_events m (Err f) h = omega arith

pub rule_sound : (c : Call) (m : Model) → Sound m → Sound (rule c m).next
rule_sound c m a = outcome_sound m (step c m) a (step_fine c m a)

pub rule_events : (c : Call) (m : Model) → Sound m → length (rule c m).events ≤ 160
rule_events c m a = outcome_events m (step c m) (step_fine c m a)
