-- A call in lists that have an end, as code carries it out, is the call of the rules; its events are written from the first place on.
use Rattle.std.proofs.Common.{◌≡◌, ℕ, suc, ◌+◌, ◌<◌, ◌≤◌, Bool, true, false, not, ◌||◌, eqb, List, [], ◌∷◌, ◌++◌, length, get_or, drop, set, Some, None, Ok, Err, fold, filter, Option, Result, sym, refl, ap, ◌∙◌, append_assoc, arith, length-append, length-drop, drop-cons, map, option_map, ok_or, int_eq, pos}
use Rattle.std.proofs.lemmas.List.{set_at, append-nil, length_push}
use Rattle.std.proofs.lemmas.Bool.{leb-false}
use Rattle.list.specs.Written.{written}
use Rattle.model.specs.declared.event.Event.{Event}
use Rattle.model.specs.declared.fault.Fault.{Fault}
use Rattle.rules.specs.declared.callback.Callback.{Callback}
use Rattle.rules.specs.declared.stage.Stage.TheVariants.{Pending}
use Rattle.rules.specs.State.{Model, surface_of, most, surface_at, buffer_at, object_at, object_place, Surface, no_surface}
use Rattle.rules.specs.Setters.{with_pending_order, with_callbacks, with_roots, with_on, with_surfaces, put_object, edit_buffer, free_object}
use Rattle.rules.specs.Run.{plain, start, edit, in_model, send, done, delete_id}
use Rattle.rules.specs.Bounded.{Sheet, noted, bounded}
use Rattle.rules.specs.Table.{free_place, record_at}
use Rattle.rules.specs.Tree.{descends}
use Rattle.rules.specs.Station.{◌>>=◌, refuse_if}
use Rattle.rules.specs.Ask.{Found, create_surface, get_subsurface, destroy_surface, attach, damage, ask_frame, commit_surface, destroy_subsurface, set_position, place_beside, set_sync, set_desync, destroy_buffer, linked}
use Rattle.rules.specs.Carry.{spoken_for, crowded, full_callbacks, in_range, siblings, adopt, place_in, unless_inert, unlink_linked, forget_object, end_subsurface, nameless, detached, end_buffer, carried}
use Rattle.rules.specs.Walk.{Shown}
use Rattle.rules.specs.Call.{raise, mark, switched, is_current, answer_one, answer_current, after_showing}
use Rattle.rules.specs.Hold.{end_waiting}
use Rattle.bounds.specs.Sound.{Sound, Roots}
use Rattle.bounds.proofs.Steps.{Plain}
use Rattle.bounds.proofs.Links.{reordering, child_of, subsurface_object}
use Rattle.bounds.proofs.Tables.{changed_alike}
use Rattle.bounds.proofs.Coded.{Coded, sheet, coded, pushed_fits, send_coded, end_waiting_coded, commit_coded, desync_coded, unlink_coded, destroy_coded, send_living_coded}
use Rattle.bounds.proofs.Fitting.{root_fits, child_fits}
use Rattle.std.specs.List.{list_any}

-- the events stand in the first places, and later places are as they were
noted_next : (old pre : List Event) (e : Event) → length pre < length old
    → noted (record { places = written old pre; count = length pre }) e ≡ record { places = written old (pre ++ e ∷ []); count = length (pre ++ e ∷ []) }
noted_next old pre e h =
    let next = drop (suc (length pre)) old in
    let long : length (written old pre) ≡ length old = omega (arith, length-append pre (drop (length pre) old), length-drop (length pre) old, h) in
    let there : set (written old pre) (length pre) e ≡ pre ++ e ∷ next =
    ap (λ (xs : List Event). set (pre ++ xs) (length pre) e) (drop-cons old (length pre) e h) ∙ set_at pre (get_or old (length pre) e) next e (length pre) refl in
    let more : suc (length pre) ≡ length (pre ++ e ∷ []) = omega (arith, length_push pre e) in
    let here : pre ++ e ∷ next ≡ written old (pre ++ e ∷ []) =
    ap (λ n. pre ++ e ∷ drop n old) more ∙ sym (append_assoc pre (e ∷ []) (drop (length (pre ++ e ∷ [])) old)) in
    same_sheet (there ∙ here) (omega (arith, long, length_push pre e, h))
  where
    same_sheet : {xs ys : List Event} {a b : ℕ} → xs ≡ ys → a ≡ b → ◌≡◌ {A = Sheet} (record { places = xs; count = a }) (record { places = ys; count = b })
    same_sheet p q = cc

sheet_from : (old pre es : List Event) → length pre + length es ≤ length old
    → fold noted (record { places = written old pre; count = length pre }) es ≡ record { places = written old (pre ++ es); count = length (pre ++ es) }
sheet_from old pre [] h = ap (λ (xs : List Event). record { places = written old xs; count = length xs }) (sym (append-nil pre))
sheet_from old pre (e ∷ es) h =
    ap (λ (s : Sheet). fold noted s es) (noted_next old pre e (omega arith))
    ∙ sheet_from old (pre ++ e ∷ []) es (omega (arith, h, length-append pre (e ∷ [])))
    ∙ ap (λ (xs : List Event). record { places = written old xs; count = length xs }) (append_assoc pre (e ∷ []) es)

pub sheet_written : (old es : List Event) → length es ≤ length old → sheet old es ≡ record { places = written old es; count = length es }
sheet_written old es h = sheet_from old [] es (omega (arith, h))

-- what a call does, in code
abbrev pub coded_step : List Event → Result Plain Fault → Result Coded Fault
coded_step old (Ok r) = Ok (coded old r)
coded_step old (Err f) = Err f

module _ (old : List Event) where
  unless_coded : (bad : Bool) (f : Fault) (k' : Unit {0} → Result Coded Fault) (k : Unit {0} → Result Plain Fault) → (bad ≡ false → k' tt ≡ coded_step old (k tt))
      → (refuse_if bad f >>= k') ≡ coded_step old (refuse_if bad f >>= k)
  unless_coded true f k' k h = refl
  unless_coded false f k' k h = h refl

  found_coded : {A : Type 0} (o : Option A) (f : Fault) (k' : A → Result Coded Fault) (k : A → Result Plain Fault) → ((a : A) → o ≡ Some a → k' a ≡ coded_step old (k a))
      → (ok_or o f >>= k') ≡ coded_step old (ok_or o f >>= k)
  found_coded None f k' k h = refl
  found_coded (Some a) f k' k h = h a refl

  inert_coded : (o : Option ℕ) (k' : ℕ → Result Coded Fault) (k : ℕ → Result Plain Fault) (r : Plain) → ((p : ℕ) → k' p ≡ coded_step old (k p))
      → unless_inert bounded o k' (coded old r) ≡ coded_step old (unless_inert plain o k r)
  inert_coded None k' k r h = refl
  inert_coded (Some p) k' k r h = h p

  adopt_coded : (m : Model) (client id s q : ℕ) → crowded m q ≡ false → adopt bounded client id s q (coded old (start m)) ≡ coded old (adopt plain client id s q (start m))
  adopt_coded m client id s q e =
      let k = object_place client id in
      let known = in_model (put_object k (subsurface_object client id s)) (start m) in
      let child = edit s (child_of k q) known in
      let t = child.model.surfaces in
      ap (λ (u : List (Option Surface)). coded old (in_model (with_surfaces u) child))
      (changed_alike no_surface (reordering (λ ys. bounded.ordered ys s)) (reordering (λ ys. plain.ordered ys s)) t q
      (ap (λ (xs : List ℕ). with_pending_order xs (record_at no_surface t q)) (child_fits m k s q e)))

  placed_coded : (m : Model) (over : Bool) (c by : ℕ) (o : Option ℕ)
      → place_in bounded o over c by (coded old (start m)) ≡ coded_step old (place_in plain o over c by (start m))
  placed_coded m over c by None = refl
  placed_coded m over c by (Some q) = unless_coded (not (list_any (eqb by) (siblings m q c))) _ _ _ (λ _. refl)

  called_coded : (m : Model) (k : Callback) → full_callbacks m ≡ false
      → in_model (λ n. with_callbacks (bounded.asked n.callbacks k) n) (coded old (start m)) ≡ coded old (in_model (λ n. with_callbacks (plain.asked n.callbacks k) n) (start m))
  called_coded m k e =
      ap (λ (ks : List Callback). coded old (record { model = with_callbacks ks m; events = [] })) (pushed_fits 64 m.callbacks k (leb-false 64 (length m.callbacks) e))

  unlink_linked_coded : (o : Option ℕ) (r : Plain) → unlink_linked bounded o (coded old r) ≡ coded old (unlink_linked plain o r)
  unlink_linked_coded None r = refl
  unlink_linked_coded (Some p) r = unlink_coded old p r

  forget_object_coded : (o : Option ℕ) (r : Plain) → forget_object bounded o (coded old r) ≡ coded old (forget_object plain o r)
  forget_object_coded None r = refl
  forget_object_coded (Some p) r = refl

  end_subsurface_coded : (k : ℕ) (p : Option ℕ) (r : Plain) → end_subsurface bounded k p (coded old r) ≡ coded old (end_subsurface plain k p r)
  end_subsurface_coded k p r =
      let o = object_at r.model k in
      let event = delete_id o.client o.id in
      let u = unlink_linked plain p r in
      ap (λ (t : Coded). send bounded event (in_model (free_object k) (forget_object bounded (surface_of o.kind) t))) (unlink_linked_coded p r)
      ∙ ap (λ (t : Coded). send bounded event (in_model (free_object k) t)) (forget_object_coded (surface_of o.kind) u)
      ∙ send_coded old event (in_model (free_object k) (forget_object plain (surface_of o.kind) u))

  end_buffer_coded : (b : ℕ) (r : Plain) → end_buffer bounded b (coded old r) ≡ coded old (end_buffer plain b r)
  end_buffer_coded b r =
      let f = buffer_at r.model b in
      send_living_coded old (delete_id f.client) f.id (in_model (λ m. edit_buffer b nameless (with_surfaces (map (option_map (detached b)) m.surfaces) m)) r)

  -- a request
  pub carried_coded : (m : Model) (q : Found) → Sound m → carried bounded q (coded old (start m)) ≡ coded_step old (carried plain q (start m))
  carried_coded m (create_surface client id) a = found_coded (free_place m.surfaces) _ _ _ (λ _ _. refl)
  carried_coded m (get_subsurface client id s q) a =
      unless_coded (spoken_for (surface_at m s)) _ _ _ λ _.
      unless_coded (eqb q s || descends m q s) _ _ _ λ _.
      unless_coded (crowded m q) _ _ _ λ e.
      ap Ok (adopt_coded m client id s q e)
  carried_coded m (destroy_surface p) a = ap Ok (destroy_coded old p (start m) a.glass)
  carried_coded m (attach p v x y) a =
      unless_coded (not (int_eq x (pos 0))) _ _ _ λ _.
      unless_coded (not (int_eq y (pos 0))) _ _ _ λ _. refl
  carried_coded m damage a = refl
  carried_coded m (ask_frame client p id) a =
      unless_coded (full_callbacks m) _ _ _ λ e.
      ap Ok (called_coded m (record { client = client; id = id; surface = p; stage = Pending }) e)
  carried_coded m (commit_surface p) a = ap Ok (commit_coded old p (start m) a.glass)
  carried_coded m (destroy_subsurface k) a = ap Ok (end_subsurface_coded k (linked m k) (start m))
  carried_coded m (set_position o x y) a =
      unless_coded (not (in_range x)) _ _ _ λ _.
      unless_coded (not (in_range y)) _ _ _ λ _.
      inert_coded o _ _ (start m) (λ _. refl)
  carried_coded m (place_beside over o by) a = inert_coded o _ _ (start m) (λ p. placed_coded m over p by (surface_at m p).parent)
  carried_coded m (set_sync o) a = inert_coded o _ _ (start m) (λ _. refl)
  carried_coded m (set_desync o) a = inert_coded o _ _ (start m) (λ p. ap Ok (desync_coded old p (start m) a.glass))
  carried_coded m (destroy_buffer b) a = ap Ok (end_buffer_coded b (start m))

  -- root, where p is a place of the table
  pub raise_coded : (p : ℕ) (r : Plain) → p < most → Roots r.model.roots → raise bounded p (coded old r) ≡ coded old (raise plain p r)
  raise_coded p r h a = ap (λ (ps : List ℕ). coded old (record { model = with_roots ps r.model; events = r.events })) (root_fits p r.model.roots h a)

  -- switch
  pub switched_coded : (on turn : Bool) (r : Plain) → switched bounded on turn (coded old r) ≡ coded old (switched plain on turn r)
  switched_coded on true r = refl
  switched_coded true false r = ap (λ (t : Coded). in_model (with_on false) (mark [] t)) (end_waiting_coded old r)
  switched_coded false false r = refl

  -- frame
  answers_coded : (time : ℕ) (ks : List Callback) (r : Plain) → fold (answer_one bounded time) (coded old r) ks ≡ coded old (fold (answer_one plain time) r ks)
  answers_coded time [] r = refl
  answers_coded time (k ∷ ks) r =
      let gone = delete_id k.client k.id in
      ap (λ (t : Coded). fold (answer_one bounded time) (send bounded gone t) ks) (send_coded old (done k time) r)
      ∙ ap (λ (t : Coded). fold (answer_one bounded time) t ks) (send_coded old gone (send plain (done k time) r))
      ∙ answers_coded time ks (answer_one plain time r k)

  pub after_showing_coded : (time : ℕ) (all : List Shown) (r : Plain) → after_showing bounded time all (coded old r) ≡ coded old (after_showing plain time all r)
  after_showing_coded time all r =
      let w = end_waiting plain r in
      ap (λ (t : Coded). mark all (answer_current bounded time t)) (end_waiting_coded old r)
      ∙ ap (λ (t : Coded). mark all (in_model (λ m. with_callbacks (filter (λ k. not (is_current k)) m.callbacks) m) t)) (answers_coded time (filter is_current w.model.callbacks) w)
