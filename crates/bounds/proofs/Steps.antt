-- Steps that leave the tree as it is: what they keep, and how many events they send.
use Rattle.std.proofs.Common.{◌≡◌, ℕ, ◌+◌, ◌≤◌, Bool, not, ◌⊎◌, List, [], ◌∷◌, length, Some, None, fold, sum_by, filter, Option, sym, refl, ap, ◌∙◌, subst, inl, inr, arith, length-set, option_map, get_or}
use lib.ListN.{length-map}
use Rattle.std.proofs.lemmas.List.Filters.{length-filter_both}
use Rattle.std.proofs.lemmas.List.{length_push}
use Rattle.model.specs.declared.event.Event.{Event}
use Rattle.std.specs.Option.{option_len}
use Rattle.rules.specs.declared.attach.Attach.{Attach}
use Rattle.rules.specs.declared.attach.Attach.TheVariants.{Nothing, Null, Buffer as Held}
use Rattle.rules.specs.declared.callback.Callback.{Callback}
use Rattle.rules.specs.declared.stage.Stage.{Stage}
use Rattle.rules.specs.State.{Model, Surface, Waiting, no_surface, surface_at, buffer_at}
use Rattle.rules.specs.Setters.{with_callbacks, with_waiting}
use Rattle.rules.specs.Run.{Run, plain, at, edit, send, release, delete_id, send_living}
use Rattle.rules.specs.Hold.{end_hold, end_cached, end_waiting}
use Rattle.rules.specs.Callback.{advance, moved, end_callbacks}
use Rattle.bounds.specs.Sound.{on_glass}
use Rattle.bounds.proofs.Tables.{changed_related, changed_sum}
use Rattle.rules.specs.Table.{records}

abbrev pub Plain : Type 0
Plain = Run (List Event)

-- a surface whose links stay; its pending order may have become current
pub record LinkedAlike (s t : Surface) : Type 0 where
  pub id : t.id ≡ s.id
  pub parent : t.parent ≡ s.parent
  pub object : t.object ≡ s.object
  pub pending : t.pending.order ≡ s.pending.order
  pub current : (t.current.order ≡ s.current.order) ⊎ (t.current.order ≡ s.pending.order)

pub alike_same : (s : Surface) → LinkedAlike s s
alike_same s = record { id = refl; parent = refl; object = refl; pending = refl; current = inl refl }

pub alike_then : (s t u : Surface) → LinkedAlike s t → LinkedAlike t u → LinkedAlike s u
alike_then s t u a b =
    record {
      id = b.id ∙ a.id;
      parent = b.parent ∙ a.parent;
      object = b.object ∙ a.object;
      pending = b.pending ∙ a.pending;
      current = elim b.current [ inl e ↦ elim a.current [ inl h ↦ inl (e ∙ h) | inr h ↦ inr (e ∙ h) ] | inr e ↦ inr (e ∙ a.pending) ];
    }

-- one, if something is cached
abbrev pub cached_one : Attach → ℕ
cached_one Nothing = 0
cached_one Null = 1
cached_one (Held b) = 1

pub cached_most : (a : Attach) → cached_one a ≤ 1
cached_most Nothing = omega arith
cached_most Null = omega arith
cached_most (Held b) = omega arith

abbrev pub cached_in : List (Option Surface) → ℕ
cached_in t = sum_by (λ s. cached_one s.cached) (records t)

-- what a run has spent of its events, or may spend yet by applying what is cached
abbrev pub spent : Plain → ℕ
spent r = length r.events + cached_in r.model.surfaces

-- the run t comes from r by steps that leave links and buffers, and spend at most n
pub record Keeps (n : ℕ) (r t : Plain) : Type 0 where
  pub places : length t.model.surfaces ≡ length r.model.surfaces
  pub surfaces : (q : ℕ) → LinkedAlike (at r q) (at t q)
  pub buffers : t.model.buffers ≡ r.model.buffers
  pub objects : t.model.objects ≡ r.model.objects
  pub size : t.model.size ≡ r.model.size
  pub roots : t.model.roots ≡ r.model.roots
  pub callbacks : length t.model.callbacks ≡ length r.model.callbacks
  pub glass : on_glass t.model.surfaces t.model.waiting ≤ on_glass r.model.surfaces r.model.waiting
  pub spends : spent t ≤ spent r + n

pub keeps_same : (r : Plain) → Keeps 0 r r
keeps_same r =
    record {
      places = refl;
      surfaces = λ q. alike_same (at r q);
      buffers = refl;
      objects = refl;
      size = refl;
      roots = refl;
      callbacks = refl;
      glass = omega arith;
      spends = omega arith;
    }

pub keeps_then : (n k : ℕ) (r t u : Plain) → Keeps n r t → Keeps k t u → Keeps (n + k) r u
keeps_then n k r t u a b =
    record {
      places = b.places ∙ a.places;
      surfaces = λ q. alike_then (at r q) (at t q) (at u q) (a.surfaces q) (b.surfaces q);
      buffers = b.buffers ∙ a.buffers;
      objects = b.objects ∙ a.objects;
      size = b.size ∙ a.size;
      roots = b.roots ∙ a.roots;
      callbacks = b.callbacks ∙ a.callbacks;
      glass = omega (arith, a.glass, b.glass);
      spends = omega (arith, a.spends, b.spends);
    }

pub one_most : (o : Option ℕ) → option_len o ≤ 1
one_most None = omega arith
one_most (Some x) = omega arith

abbrev pub mark_one : Surface → ℕ
mark_one s = option_len s.current.mark

abbrev pub cache_one : Surface → ℕ
cache_one s = cached_one s.cached

-- an edit of one surface
pub edit_keeps : (n p : ℕ) (f : Surface → Surface) (r : Plain) → LinkedAlike (at r p) (f (at r p)) → mark_one (f (at r p)) ≤ mark_one (at r p)
    → cache_one (f (at r p)) ≤ cache_one (at r p) + n → Keeps n r (edit p f r)
edit_keeps n p f r h m c =
    record {
      places = length-set r.model.surfaces p (option_map f (get_or r.model.surfaces p None));
      surfaces = changed_related no_surface LinkedAlike alike_same r.model.surfaces p f h;
      buffers = refl;
      objects = refl;
      size = refl;
      roots = refl;
      callbacks = refl;
      glass = omega (arith, changed_sum no_surface mark_one refl r.model.surfaces p f, m);
      spends = omega (arith, changed_sum no_surface cache_one refl r.model.surfaces p f, c);
    }

-- an event of an object that may have ended
pub sent_living : (P : Plain → Type 0) (event : ℕ → Event) (id : Option ℕ) (r : Plain) → P r → ((i : ℕ) → P (send plain (event i) r)) → P (send_living plain event id r)
sent_living P event None r h k = h
sent_living P event (Some i) r h k = k i

-- a hold ends: only an event
pub end_hold_model : (b : ℕ) (r : Plain) → (end_hold plain b r).model ≡ r.model
end_hold_model b r =
    let f = buffer_at r.model b in
    sent_living (λ (t : Plain). t.model ≡ r.model) (release f.client) f.id r refl (λ i. refl)

pub end_hold_events : (b : ℕ) (r : Plain) → length (end_hold plain b r).events ≤ length r.events + 1
end_hold_events b r =
    let f = buffer_at r.model b in
    sent_living (λ (t : Plain). length t.events ≤ length r.events + 1) (release f.client) f.id r (omega arith) (λ i. omega (arith, length_push r.events (release f.client i)))

pub end_cached_model : (a : Attach) (r : Plain) → (end_cached plain a r).model ≡ r.model
end_cached_model Nothing r = refl
end_cached_model Null r = refl
end_cached_model (Held b) r = end_hold_model b r

pub end_cached_events : (a : Attach) (r : Plain) → length (end_cached plain a r).events ≤ length r.events + cached_one a
end_cached_events Nothing r = omega arith
end_cached_events Null r = omega arith
end_cached_events (Held b) r = end_hold_events b r

-- a run with the same model, and some events more
pub sent_keeps : (n : ℕ) (r t : Plain) → t.model ≡ r.model → length t.events ≤ length r.events + n → Keeps n r t
sent_keeps n r t e h =
    record {
      places = ap (λ (m : Model). length m.surfaces) e;
      surfaces = λ q. subst (λ (m : Model). LinkedAlike (at r q) (surface_at m q)) (sym e) (alike_same (at r q));
      buffers = ap (λ (m : Model). m.buffers) e;
      objects = ap (λ (m : Model). m.objects) e;
      size = ap (λ (m : Model). m.size) e;
      roots = ap (λ (m : Model). m.roots) e;
      callbacks = ap (λ (m : Model). length m.callbacks) e;
      glass = omega (arith, ap (λ (m : Model). on_glass m.surfaces m.waiting) e);
      spends = omega (arith, ap (λ (m : Model). cached_in m.surfaces) e, h);
    }

pub advance_keeps : (p : ℕ) (from to : Stage) (r : Plain) → Keeps 0 r (advance p from to r)
advance_keeps p from to r =
    record {
      places = refl;
      surfaces = λ q. alike_same (at r q);
      buffers = refl;
      objects = refl;
      size = refl;
      roots = refl;
      callbacks = length-map r.model.callbacks (moved p from to);
      glass = omega arith;
      spends = omega arith;
    }

-- events alone
sent_model : {A : Type 0} (f : A → Event) (xs : List A) (r : Plain) → (fold (λ t k. send plain (f k) t) r xs).model ≡ r.model
sent_model f [] r = refl
sent_model f (x ∷ xs) r = sent_model f xs (send plain (f x) r)

sent_events : {A : Type 0} (f : A → Event) (xs : List A) (r : Plain) → length (fold (λ t k. send plain (f k) t) r xs).events ≡ length r.events + length xs
sent_events f [] r = omega arith
sent_events f (x ∷ xs) r = omega (arith, sent_events f xs (send plain (f x) r), length_push r.events (f x))

abbrev ended_event : Callback → Event
ended_event k = delete_id k.client k.id

pub end_callbacks_model : (test : Callback → Bool) (r : Plain) → (end_callbacks plain test r).model ≡ with_callbacks (filter (λ k. not (test k)) r.model.callbacks) r.model
unfolding end_callbacks
end_callbacks_model test r =
    ap (λ (m : Model). with_callbacks (filter (λ k. not (test k)) m.callbacks) m) (sent_model ended_event (filter test r.model.callbacks) r)

-- each callback that ends is an event
pub end_callbacks_events : (test : Callback → Bool) (r : Plain)
    → length (end_callbacks plain test r).events + length (end_callbacks plain test r).model.callbacks ≡ length r.events + length r.model.callbacks
unfolding end_callbacks
end_callbacks_events test r =
    let ks = r.model.callbacks in
    omega (arith, sent_events ended_event (filter test ks) r, ap (λ (m : Model). length m.callbacks) (end_callbacks_model test r), length-filter_both test (λ k. not (test k)) (λ k. refl) ks)

-- waiting holds end: each at most an event
ended_model : (ws : List Waiting) (r : Plain) → (fold (λ t w. end_hold plain w.buffer t) r ws).model ≡ r.model
ended_model [] r = refl
ended_model (w ∷ ws) r = ended_model ws (end_hold plain w.buffer r) ∙ end_hold_model w.buffer r

ended_events : (ws : List Waiting) (r : Plain) → length (fold (λ t w. end_hold plain w.buffer t) r ws).events ≤ length r.events + length ws
ended_events [] r = omega arith
ended_events (w ∷ ws) r = omega (arith, ended_events ws (end_hold plain w.buffer r), end_hold_events w.buffer r)

pub end_waiting_model : (r : Plain) → (end_waiting plain r).model ≡ with_waiting [] r.model
unfolding end_waiting
end_waiting_model r = ap (with_waiting []) (ended_model r.model.waiting r)

pub end_waiting_events : (r : Plain) → length (end_waiting plain r).events ≤ length r.events + length r.model.waiting
unfolding end_waiting
end_waiting_events r = ended_events r.model.waiting r
