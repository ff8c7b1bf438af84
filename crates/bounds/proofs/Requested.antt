-- Every request keeps a core sound.
use Rattle.std.proofs.Common.{◌≡◌, ℕ, ◌≤◌, Bool, true, false, not, ◌||◌, eqb, List, length, ℤ, Some, None, Ok, Option, Result, refl, subst, inl, arith, int_eq, pos}
use Rattle.std.proofs.lemmas.List.{length_push}
use Rattle.std.proofs.lemmas.Bool.{leb-false}
use Rattle.model.specs.declared.fault.Fault.{Fault}
use Rattle.model.specs.declared.request.Request.{Request}
use Rattle.model.specs.declared.request.Request.TheVariants.{CreateSurface, GetSubsurface, SurfaceDestroy, Attach as AttachBuffer, Damage, Frame, Commit, SubsurfaceDestroy, SetPosition, PlaceAbove, PlaceBelow, SetSync, SetDesync, BufferDestroy}
use Rattle.model.specs.Message.{header_of, body_of, header_answer}
use Rattle.model.specs.Request.{request_of}
use Rattle.model.specs.Word.{words}
use Rattle.rules.specs.declared.callback.Callback.{Callback}
use Rattle.rules.specs.declared.stage.Stage.TheVariants.{Pending}
use Rattle.rules.specs.State.{Model, Surface, surface_at}
use Rattle.rules.specs.Setters.{with_attach, with_pending_position, with_sync, with_callbacks}
use Rattle.rules.specs.Run.{plain, start, edit, in_model}
use Rattle.rules.specs.Apply.{commit, desync}
use Rattle.rules.specs.Tree.{descends}
use Rattle.rules.specs.Name.{named, interface_of, place_of, new_id, the_surface}
use Rattle.rules.specs.Ask.{Found, create_surface, get_subsurface, destroy_surface, attach, damage, ask_frame, commit_surface, destroy_subsurface, set_position, place_beside, set_sync, set_desync, destroy_buffer, the_attach, with_objects_found, enough_places, known_client, asked}
use Rattle.rules.specs.Carry.{spoken_for, crowded, full_callbacks, in_range, siblings, place_in, unless_inert, carried}
use Rattle.rules.specs.Call.{request}
use Rattle.bounds.specs.Sound.{Sound}
use Rattle.bounds.proofs.Steps.{LinkedAlike, mark_one, cache_one, edit_keeps}
use Rattle.bounds.proofs.Applied.{commit_keeps, desync_keeps}
use Rattle.bounds.proofs.Stations.{Accepts, then, then_unless, then_found, FoundSurface, surface_named}
use Rattle.bounds.proofs.Kept.{Fine, fine_keeps, unchanged_fine}
use Rattle.bounds.proofs.Made.{created, adopted_fine, placed_fine}
use Rattle.bounds.proofs.Ended.{destroyed_fine, subsurface_ended_fine, buffer_ended_fine}
use Rattle.rules.specs.Table.{free_place}
use Rattle.std.specs.List.{list_any}

-- the surfaces of get_subsurface are there
abbrev Places : Model → Found → Type 0
Places m (create_surface client id) = Unit {0}
Places m (get_subsurface client id s q) = FoundSurface m s × FoundSurface m q
Places m (destroy_surface p) = Unit {0}
Places m (attach p a x y) = Unit {0}
Places m damage = Unit {0}
Places m (ask_frame client p id) = Unit {0}
Places m (commit_surface p) = Unit {0}
Places m (destroy_subsurface k) = Unit {0}
Places m (set_position o x y) = Unit {0}
Places m (place_beside over o by) = Unit {0}
Places m (set_sync o) = Unit {0}
Places m (set_desync o) = Unit {0}
Places m (destroy_buffer b) = Unit {0}

places_of : (m : Model) (client p : ℕ) (q : Request) → Accepts (Places m) (with_objects_found m client p q)
places_of m client p (CreateSurface id) = then (Places m) (new_id m client 2 id) _ (λ _ _. tt)
places_of m client p (GetSubsurface id s q) =
    then (Places m) (new_id m client 2 id) _ λ _ _.
    then (Places m) (the_surface m client 3 s) _ λ a e.
    then (Places m) (the_surface m client 4 q) _ λ b f.
    (surface_named m client 3 s a e, surface_named m client 4 q b f)
places_of m client p SurfaceDestroy = tt
places_of m client p (AttachBuffer id x y) = then (Places m) (the_attach m client id) _ (λ _ _. tt)
places_of m client p (Damage x y w h) = tt
places_of m client p (Frame id) = then (Places m) (new_id m client 2 id) _ (λ _ _. tt)
places_of m client p Commit = tt
places_of m client p SubsurfaceDestroy = tt
places_of m client p (SetPosition x y) = tt
places_of m client p (PlaceAbove s) = then (Places m) (the_surface m client 2 s) _ (λ _ _. tt)
places_of m client p (PlaceBelow s) = then (Places m) (the_surface m client 2 s) _ (λ _ _. tt)
places_of m client p SetSync = tt
places_of m client p SetDesync = tt
places_of m client p BufferDestroy = tt

asked_places : (places client : ℕ) (bytes : List ℕ) (m : Model) → Accepts (Places m) (asked places client bytes m)
asked_places places client bytes m =
    then (Places m) (enough_places places) _ λ _ _.
    then (Places m) (known_client client) _ λ _ _.
    then (Places m) (header_answer (header_of bytes) (body_of bytes)) _ λ header _.
    then_found (Places m) (named m client header.object) _ _ λ n _.
    then (Places m) (request_of (interface_of m n) header.opcode (words (body_of bytes))) _ λ q _.
    places_of m client (place_of n) q

-- an edit of one surface that leaves its links, its mark and what it has cached
edited : (m : Model) (p : ℕ) (f : Surface → Surface) → Sound m → LinkedAlike (surface_at m p) (f (surface_at m p)) → mark_one (f (surface_at m p)) ≤ mark_one (surface_at m p)
    → cache_one (f (surface_at m p)) ≤ cache_one (surface_at m p) → Fine (edit p f (start m))
edited m p f a h k c = fine_keeps 0 m (edit p f (start m)) a (omega arith) (edit_keeps 0 p f (start m) h k (omega (arith, c)))

positioned_fine : (m : Model) (o : Option ℕ) (x y : ℤ) → Sound m → Accepts Fine (unless_inert plain o (λ p. Ok (edit p (with_pending_position x y) (start m))) (start m))
positioned_fine m None x y a = unchanged_fine m a
positioned_fine m (Some p) x y a =
    edited m p (with_pending_position x y) a (record { id = refl; parent = refl; object = refl; pending = refl; current = inl refl }) (omega arith) (omega arith)

placed_in : (m : Model) (over : Bool) (c by : ℕ) (o : Option ℕ) → (surface_at m c).parent ≡ o → Sound m → Accepts Fine (place_in plain o over c by (start m))
placed_in m over c by None e a = unchanged_fine m a
placed_in m over c by (Some q) e a = then_unless Fine (not (list_any (eqb by) (siblings m q c))) _ _ λ _. placed_fine m over q c by a e

placed_beside : (m : Model) (over : Bool) (o : Option ℕ) (by : ℕ) → Sound m → Accepts Fine (unless_inert plain o (λ p. place_in plain (surface_at m p).parent over p by (start m)) (start m))
placed_beside m over None by a = unchanged_fine m a
placed_beside m over (Some p) by a = placed_in m over p by (surface_at m p).parent refl a

synced : (m : Model) (o : Option ℕ) → Sound m → Accepts Fine (unless_inert plain o (λ p. Ok (edit p (with_sync true) (start m))) (start m))
synced m None a = unchanged_fine m a
synced m (Some p) a = edited m p (with_sync true) a (record { id = refl; parent = refl; object = refl; pending = refl; current = inl refl }) (omega arith) (omega arith)

desynced : (m : Model) (o : Option ℕ) → Sound m → Accepts Fine (unless_inert plain o (λ p. Ok (desync plain p (start m))) (start m))
desynced m None a = unchanged_fine m a
desynced m (Some p) a = fine_keeps 0 m (desync plain p (start m)) a (omega arith) (desync_keeps p (start m))

called : (m : Model) (k : Callback) → Sound m → full_callbacks m ≡ false → Fine (in_model (λ n. with_callbacks (plain.asked n.callbacks k) n) (start m))
called m k a e =
    let room = leb-false 64 (length m.callbacks) e in
    record {
      sound = record { tree = a.tree; spans = a.spans; glass = a.glass; roots = a.roots; callbacks = omega (arith, length_push m.callbacks k, room) };
      events = omega arith;
    }

carried_fine : (m : Model) (q : Found) → Sound m → Places m q → Accepts Fine (carried plain q (start m))
carried_fine m (create_surface client id) a h = then_found Fine (free_place m.surfaces) _ _ λ p e. created m client id p a e
carried_fine m (get_subsurface client id s q) a h =
    then_unless Fine (spoken_for (surface_at m s)) _ _ λ x.
    then_unless Fine (eqb q s || descends m q s) _ _ λ y.
    then_unless Fine (crowded m q) _ _ λ _.
    adopted_fine m client id s q a h.0 h.1 x y
carried_fine m (destroy_surface p) a h = destroyed_fine m p a
carried_fine m (attach p v x y) a h =
    then_unless Fine (not (int_eq x (pos 0))) _ _ λ _.
    then_unless Fine (not (int_eq y (pos 0))) _ _ λ _.
    edited m p (with_attach v) a (record { id = refl; parent = refl; object = refl; pending = refl; current = inl refl }) (omega arith) (omega arith)
carried_fine m damage a h = unchanged_fine m a
carried_fine m (ask_frame client p id) a h =
    then_unless Fine (full_callbacks m) _ _ λ e.
    called m (record { client = client; id = id; surface = p; stage = Pending }) a e
carried_fine m (commit_surface p) a h = fine_keeps 1 m (commit plain p (start m)) a (omega arith) (commit_keeps p (start m))
carried_fine m (destroy_subsurface k) a h = subsurface_ended_fine m k a
carried_fine m (set_position o x y) a h =
    then_unless Fine (not (in_range x)) _ _ λ _.
    then_unless Fine (not (in_range y)) _ _ λ _.
    positioned_fine m o x y a
carried_fine m (place_beside over o by) a h = placed_beside m over o by a
carried_fine m (set_sync o) a h = synced m o a
carried_fine m (set_desync o) a h = desynced m o a
carried_fine m (destroy_buffer b) a h = buffer_ended_fine m b a

found_places : (m : Model) (e : Result Found Fault) (q : Found) → Accepts (Places m) e → e ≡ Ok q → Places m q
found_places m e q h k = subst (Accepts (Places m)) k h

pub request_fine : (places client : ℕ) (bytes : List ℕ) (m : Model) → Sound m → Accepts Fine (request places client bytes m)
request_fine places client bytes m a =
    then Fine (asked places client bytes m) _ λ q e. carried_fine m q a (found_places m (asked places client bytes m) q (asked_places places client bytes m) e)
