-- Steps in lists that have an end, as code takes them: the same as in lists without one, while the holds on the glass have room.
use Rattle.std.proofs.Common.{◌≡◌, ℕ, zero, suc, ◌<◌, ◌≤◌, Bool, true, false, cond, not, ◌||◌, eqb, List, [], ◌∷◌, ◌++◌, length, Some, None, fold, filter, Option, sym, refl, ap, ◌∙◌, arith}
use Rattle.std.proofs.lemmas.List.{take_all, length_push}
use Rattle.std.proofs.lemmas.List.Sums.{fold_push}
use Rattle.model.specs.declared.event.Event.{Event}
use Rattle.list.specs.Bounded.{pushed}
use Rattle.std.specs.Option.{option_len}
use Rattle.rules.specs.declared.attach.Attach.{Attach}
use Rattle.rules.specs.declared.attach.Attach.TheVariants.{Nothing, Null, Buffer as Held}
use Rattle.rules.specs.declared.callback.Callback.{Callback}
use Rattle.rules.specs.declared.stage.Stage.TheVariants.{Pending, Cached, Current}
use Rattle.rules.specs.State.{Waiting, most, no_surface, buffer_at}
use Rattle.rules.specs.Setters.{with_attach, with_cached, with_hold, with_mark, with_sync, with_callbacks, with_waiting, with_parent, with_roots, free_surface}
use Rattle.rules.specs.Run.{Run, plain, at, edit, in_model, send, release, delete_id, send_living}
use Rattle.rules.specs.Bounded.{Sheet, noted, bounded}
use Rattle.rules.specs.Hold.{end_hold, end_cached, end_current, end_waiting, held}
use Rattle.rules.specs.Callback.{advance, end_callbacks, stands}
use Rattle.rules.specs.Tree.{held_back}
use Rattle.rules.specs.Table.{without}
use Rattle.rules.specs.Apply.{replace, take_cached, restack, apply_self, settle, apply_place, apply_in, apply_free, take_pending, commit, desync}
use Rattle.rules.specs.Unlink.{made_inert, leave, unlink_from, unlink, unlink_children, end_surface, destroy}
use Rattle.bounds.specs.Sound.{on_glass}
use Rattle.bounds.proofs.Tables.{put_sum}
use Rattle.bounds.proofs.Steps.{Plain, mark_one, Keeps, advance_keeps}
use Rattle.bounds.proofs.Unlinked.{unlink_ends, unlink_children_ends}
use Rattle.bounds.proofs.Applied.{KeptBy, apply_self_keeps, settle_keeps, apply_place_keeps, apply_keeps, take_pending_keeps, desync_begins}

abbrev pub Coded : Type 0
Coded = Run Sheet

-- the events one after the other on an event list that was empty
abbrev pub sheet : List Event → List Event → Sheet
sheet old es = fold noted (record { places = old; count = 0 }) es

-- the same run, its events on a list over the places old
abbrev pub coded : List Event → Plain → Coded
coded old r = record { model = r.model; events = sheet old r.events }

abbrev pub Room : Plain → Type 0
Room r = on_glass r.model.surfaces r.model.waiting ≤ most

-- a list that is not full grows
pub pushed_fits : {A : Type 0} (n : ℕ) (xs : List A) (x : A) → length xs < n → pushed n xs x ≡ xs ++ x ∷ []
pushed_fits n xs x h = take_all n (xs ++ x ∷ []) (omega (arith, length_push xs x))

module _ (old : List Event) where
  cond_coded : (b : Bool) (r t : Plain) → cond b (coded old r) (coded old t) ≡ coded old (cond b r t)
  cond_coded true r t = refl
  cond_coded false r t = refl

  pub send_coded : (e : Event) (r : Plain) → send bounded e (coded old r) ≡ coded old (send plain e r)
  send_coded e r = ap (λ (s : Sheet). record { model = r.model; events = s }) (sym (fold_push noted (record { places = old; count = 0 }) r.events e))

  pub send_living_coded : (event : ℕ → Event) (id : Option ℕ) (r : Plain) → send_living bounded event id (coded old r) ≡ coded old (send_living plain event id r)
  send_living_coded event None r = refl
  send_living_coded event (Some i) r = send_coded (event i) r

  -- holds
  pub end_hold_coded : (b : ℕ) (r : Plain) → end_hold bounded b (coded old r) ≡ coded old (end_hold plain b r)
  end_hold_coded b r =
      let f = buffer_at r.model b in
      send_living_coded (release f.client) f.id r

  pub end_cached_coded : (a : Attach) (r : Plain) → end_cached bounded a (coded old r) ≡ coded old (end_cached plain a r)
  end_cached_coded Nothing r = refl
  end_cached_coded Null r = refl
  end_cached_coded (Held b) r = end_hold_coded b r

  pub end_current_coded : (p : ℕ) (r : Plain) (h o : Option ℕ) → (at r p).current.mark ≡ o → Room r → end_current bounded h o (coded old r) ≡ coded old (end_current plain h o r)
  end_current_coded p r None o e h = refl
  end_current_coded p r (Some b) None e h = end_hold_coded b r
  end_current_coded p r (Some b) (Some k) e h =
      let w : Waiting = record { buffer = b; mark = k } in
      let room : length r.model.waiting < 32 = omega (arith, put_sum no_surface mark_one refl r.model.surfaces p None, ap option_len e, h) in
      ap (λ (ws : List Waiting). record { model = with_waiting ws r.model; events = sheet old r.events }) (pushed_fits 32 r.model.waiting w room)

  ends_coded : (ws : List Waiting) (r : Plain) → fold (λ t w. end_hold bounded w.buffer t) (coded old r) ws ≡ coded old (fold (λ t w. end_hold plain w.buffer t) r ws)
  ends_coded [] r = refl
  ends_coded (w ∷ ws) r =
      ap (λ (t : Coded). fold (λ u v. end_hold bounded v.buffer u) t ws) (end_hold_coded w.buffer r) ∙ ends_coded ws (end_hold plain w.buffer r)

  pub end_waiting_coded : (r : Plain) → end_waiting bounded (coded old r) ≡ coded old (end_waiting plain r)
  unfolding end_waiting
  end_waiting_coded r = ap (in_model (with_waiting [])) (ends_coded r.model.waiting r)

  -- callbacks
  sends_coded : {A : Type 0} (f : A → Event) (xs : List A) (r : Plain) → fold (λ t k. send bounded (f k) t) (coded old r) xs ≡ coded old (fold (λ t k. send plain (f k) t) r xs)
  sends_coded f [] r = refl
  sends_coded f (x ∷ xs) r = ap (λ (t : Coded). fold (λ u k. send bounded (f k) u) t xs) (send_coded (f x) r) ∙ sends_coded f xs (send plain (f x) r)

  pub end_callbacks_coded : (test : Callback → Bool) (r : Plain) → end_callbacks bounded test (coded old r) ≡ coded old (end_callbacks plain test r)
  unfolding end_callbacks
  end_callbacks_coded test r =
      ap (in_model (λ m. with_callbacks (filter (λ k. not (test k)) m.callbacks) m)) (sends_coded (λ k. delete_id k.client k.id) (filter test r.model.callbacks) r)

  -- apply
  replace_coded : (p : ℕ) (r : Plain) → Room r → replace bounded p (coded old r) ≡ coded old (replace plain p r)
  replace_coded p r h =
      ap (edit p (λ s. with_cached Nothing (with_mark None (with_hold (held s.cached) s)))) (end_current_coded p r (at r p).current.hold (at r p).current.mark refl h)

  take_cached_coded : (a : Attach) (p : ℕ) (r : Plain) → Room r → take_cached bounded a p (coded old r) ≡ coded old (take_cached plain a p r)
  take_cached_coded Nothing p r h = refl
  take_cached_coded Null p r h = replace_coded p r h
  take_cached_coded (Held b) p r h = replace_coded p r h

  apply_self_coded : (p : ℕ) (r : Plain) → Room r → apply_self bounded p (coded old r) ≡ coded old (apply_self plain p r)
  unfolding apply_self
  apply_self_coded p r h = ap (λ (t : Coded). restack bounded p (advance p Cached Current t)) (take_cached_coded (at r p).cached p r h)

  -- two ways to apply a child, in code and without an end
  abbrev Codes : (ℕ → Coded → Coded) → (ℕ → Plain → Plain) → Type 0
  Codes go' go = (c : ℕ) (r : Plain) → Room r → go' c (coded old r) ≡ coded old (go c r)

  room_kept : (n : ℕ) (r t : Plain) → Keeps n r t → Room r → Room t
  room_kept n r t k h = omega (arith, k.glass, h)

  apply_place_coded : (go' : ℕ → Coded → Coded) (go : ℕ → Plain → Plain) → Codes go' go → (p : ℕ) (down : Bool) (r : Plain) (c : ℕ) → Room r
      → apply_place bounded go' p down (coded old r) c ≡ coded old (apply_place plain go p down r c)
  apply_place_coded go' go h p down r c room =
      let t = settle plain c r in
      let b = down || (at r c).sync in
      ap (λ (u : Coded). cond (eqb c p) (coded old r) (cond b u (coded old t))) (h c t (room_kept 0 r t (settle_keeps c r) room))
      ∙ ap (λ (u : Coded). cond (eqb c p) (coded old r) u) (cond_coded b (go c t) t)
      ∙ cond_coded (eqb c p) r (cond b (go c t) t)

  apply_children_coded : (go' : ℕ → Coded → Coded) (go : ℕ → Plain → Plain) → Codes go' go → KeptBy go → (p : ℕ) (down : Bool) (cs : List ℕ) (r : Plain) → Room r
      → fold (apply_place bounded go' p down) (coded old r) cs ≡ coded old (fold (apply_place plain go p down) r cs)
  apply_children_coded go' go h k p down [] r room = refl
  apply_children_coded go' go h k p down (c ∷ cs) r room =
      let t = apply_place plain go p down r c in
      ap (λ (u : Coded). fold (apply_place bounded go' p down) u cs) (apply_place_coded go' go h p down r c room)
      ∙ apply_children_coded go' go h k p down cs t (room_kept 0 r t (apply_place_keeps go k p down r c) room)

  apply_coded : (n : ℕ) (down : Bool) (p : ℕ) (r : Plain) → Room r → apply_in bounded n down p (coded old r) ≡ coded old (apply_in plain n down p r)
  unfolding apply_in
  apply_coded zero down p r h = refl
  apply_coded (suc n) down p r h =
      let t = apply_self plain p r in
      ap (λ (u : Coded). fold (apply_place bounded (apply_in bounded n true) p down) u (at u p).current.order) (apply_self_coded p r h)
      ∙ apply_children_coded (apply_in bounded n true) (apply_in plain n true) (λ c u k. apply_coded n true c u k) (apply_keeps n true) p down (at t p).current.order t (room_kept 0 r t (apply_self_keeps p r) h)

  apply_free_coded : (down : Bool) (p : ℕ) (r : Plain) → Room r → apply_free bounded down p (coded old r) ≡ coded old (apply_free plain down p r)
  apply_free_coded down p r h =
      ap (λ (u : Coded). cond (held_back r.model p) (coded old r) u) (apply_coded 32 down p r h) ∙ cond_coded (held_back r.model p) r (apply_in plain 32 down p r)

  take_pending_coded : (a : Attach) (p : ℕ) (r : Plain) → take_pending bounded a p (coded old r) ≡ coded old (take_pending plain a p r)
  take_pending_coded Nothing p r = refl
  take_pending_coded Null p r = ap (edit p (λ s. with_attach Nothing (with_cached s.pending.attach s))) (end_cached_coded (at r p).cached r)
  take_pending_coded (Held b) p r = ap (edit p (λ s. with_attach Nothing (with_cached s.pending.attach s))) (end_cached_coded (at r p).cached r)

  pub commit_coded : (p : ℕ) (r : Plain) → Room r → commit bounded p (coded old r) ≡ coded old (commit plain p r)
  unfolding commit
  commit_coded p r h =
      let t = take_pending plain (at r p).pending.attach p r in
      let u = advance p Pending Cached t in
      ap (λ (v : Coded). apply_free bounded false p (advance p Pending Cached v)) (take_pending_coded (at r p).pending.attach p r)
      ∙ apply_free_coded false p u (room_kept 0 t u (advance_keeps p Pending Cached t) (room_kept 1 r t (take_pending_keeps (at r p).pending.attach p r) h))

  pub desync_coded : (p : ℕ) (r : Plain) → Room r → desync bounded p (coded old r) ≡ coded old (desync plain p r)
  unfolding desync
  desync_coded p r h =
      let t = edit p (with_sync false) r in
      ap (λ (u : Coded). cond (at r p).sync u (coded old r)) (apply_free_coded true p t (room_kept 0 r t (desync_begins p r) h)) ∙ cond_coded (at r p).sync (apply_free plain true p t) r

  -- unlink
  unlink_from_coded : (o : Option ℕ) (p : ℕ) (r : Plain) → unlink_from bounded o p (coded old r) ≡ coded old (unlink_from plain o p r)
  unlink_from_coded None p r = refl
  unlink_from_coded (Some q) p r =
      let inert = in_model (made_inert (at r p).object (Some p)) (leave plain q p r) in
      let parted = edit p (λ s. with_parent None (with_cached Nothing s)) inert in
      ap (λ (t : Coded). end_callbacks bounded (stands p Cached) t) (end_cached_coded (at r p).cached parted)
      ∙ end_callbacks_coded (stands p Cached) (end_cached plain (at r p).cached parted)

  pub unlink_coded : (p : ℕ) (r : Plain) → unlink bounded p (coded old r) ≡ coded old (unlink plain p r)
  unfolding unlink
  unlink_coded p r = unlink_from_coded (at r p).parent p r

  unlinks_coded : (cs : List ℕ) (r : Plain) → fold (λ t c. unlink bounded c t) (coded old r) cs ≡ coded old (fold (λ t c. unlink plain c t) r cs)
  unlinks_coded [] r = refl
  unlinks_coded (c ∷ cs) r = ap (λ (t : Coded). fold (λ u x. unlink bounded x u) t cs) (unlink_coded c r) ∙ unlinks_coded cs (unlink plain c r)

  unlink_children_coded : (p : ℕ) (r : Plain) → unlink_children bounded p (coded old r) ≡ coded old (unlink_children plain p r)
  unfolding unlink_children
  unlink_children_coded p r = unlinks_coded (without p (at r p).pending.order) r

  end_surface_coded : (p : ℕ) (r : Plain) → end_surface bounded p (coded old r) ≡ coded old (end_surface plain p r)
  end_surface_coded p r =
      let s = at r p in
      send_coded (delete_id s.client s.id) (in_model (λ m. free_surface p (made_inert s.object None m)) r)

  pub destroy_coded : (p : ℕ) (r : Plain) → Room r → destroy bounded p (coded old r) ≡ coded old (destroy plain p r)
  unfolding destroy
  destroy_coded p r h =
      let c = unlink_children plain p r in
      let t = unlink plain p c in
      let u = in_model (λ m. with_roots (without p m.roots) m) t in
      let v = end_current plain (at u p).current.hold (at u p).current.mark u in
      let w = end_callbacks plain (λ k. eqb k.surface p) v in
      let room : Room u = omega (arith, (unlink_ends p c).glass, (unlink_children_ends p r).glass, h) in
      let last : Coded → Coded = λ x.
      let y = in_model (λ m. with_roots (without p m.roots) m) x in
      end_surface bounded p (end_callbacks bounded (λ k. eqb k.surface p) (end_current bounded (at y p).current.hold (at y p).current.mark y)) in
      ap (λ (x : Coded). last (unlink bounded p x)) (unlink_children_coded p r)
      ∙ ap last (unlink_coded p c)
      ∙ ap (λ (x : Coded). end_surface bounded p (end_callbacks bounded (λ k. eqb k.surface p) x)) (end_current_coded p u (at u p).current.hold (at u p).current.mark refl room)
      ∙ ap (end_surface bounded p) (end_callbacks_coded (λ k. eqb k.surface p) v)
      ∙ end_surface_coded p w
