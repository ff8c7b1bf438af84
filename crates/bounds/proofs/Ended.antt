-- Requests that end a surface, a sub-surface object or a buffer.
use Rattle.std.proofs.Common.{◌≡◌, ℕ, ◌+◌, ◌<◌, ◌≤◌, not, eqb, List, length, map, get_or, set, Some, None, sum_by, Option, sym, refl, ap, ◌∙◌, subst, inl, inr, arith, get_or-set_other, option_map}
use lib.ListN.{length-map}
use Rattle.std.proofs.ByRecursion.{all_kept_by}
use Rattle.std.proofs.lemmas.List.{length_push}
use Rattle.std.proofs.lemmas.Bool.{cases_eq, cond_both}
use Rattle.std.proofs.lemmas.Option.{none-some, same_Some}
use Rattle.model.specs.declared.event.Event.{Event}
use Rattle.std.specs.Option.{option_len}
use Rattle.rules.specs.declared.attach.Attach.TheVariants.{Null}
use Rattle.rules.specs.declared.buffer.Buffer.{Buffer}
use Rattle.rules.specs.declared.object.Object.{Object}
use Rattle.rules.specs.declared.object.ObjectKind.{ObjectKind}
use Rattle.rules.specs.declared.object.ObjectKind.TheVariants.{Display, Compositor, Subcompositor, Subsurface, InertSubsurface}
use Rattle.rules.specs.State.{Model, surface_of, Surface, most, no_surface, surface_at, buffer_at, object_at}
use Rattle.rules.specs.Setters.{with_roots, with_object, with_attach, with_surfaces, edit_buffer, free_surface, free_object}
use Rattle.rules.specs.Run.{plain, start, at, edit, in_model, send, release, delete_id}
use Rattle.rules.specs.Hold.{end_current, is_of, held}
use Rattle.rules.specs.Callback.{end_callbacks}
use Rattle.rules.specs.Table.{changed, without, records}
use Rattle.rules.specs.Unlink.{as_inert, made_inert, unlink, unlink_children, destroy}
use Rattle.rules.specs.Ask.{linked}
use Rattle.rules.specs.State.{linked_by}
use Rattle.rules.specs.Carry.{detached, nameless, unlink_linked, forget_object, end_subsurface, end_buffer}
use Rattle.bounds.specs.Forest.{parent_in}
use Rattle.bounds.specs.Sound.{Sound, Tree, Spans, Roots, kind_in, on_glass}
use Rattle.bounds.proofs.Tables.{put_sum, changed_sum, put_here, all_related, all_sum, sum_ones}
use Rattle.bounds.proofs.Pigeons.{once_kept}
use Rattle.bounds.proofs.Steps.{Plain, mark_one, one_most, sent_living, end_hold_model, end_callbacks_model, end_callbacks_events, LinkedAlike, alike_same}
use Rattle.bounds.proofs.Trees.{tree_alike}
use Rattle.bounds.proofs.Unlinked.{Ends, TreeOf, tree_same, linked_in, ends_same, ends_then, end_callbacks_ends, unlink_ends, unlink_tree, unlink_gone, unlink_object, unlink_children_ends, unlink_children_tree}
use Rattle.bounds.proofs.Links.{kind_of, tree_replaced, tree_forgotten, tree_object_gone}
use Rattle.bounds.proofs.Spans.{spans_nameless}
use Rattle.bounds.proofs.Kept.{Fine, unchanged_fine}

-- a current hold ends: an event, or a wait if it had a mark
record HoldEnds (n : ℕ) (r t : Plain) : Type 0 where
  surfaces : t.model.surfaces ≡ r.model.surfaces
  objects : t.model.objects ≡ r.model.objects
  buffers : t.model.buffers ≡ r.model.buffers
  size : t.model.size ≡ r.model.size
  callbacks : t.model.callbacks ≡ r.model.callbacks
  waiting : length t.model.waiting ≤ length r.model.waiting + n
  events : length t.events ≤ length r.events + 1

hold_same : (n : ℕ) (r : Plain) → HoldEnds n r r
hold_same n r = record { surfaces = refl; objects = refl; buffers = refl; size = refl; callbacks = refl; waiting = omega arith; events = omega arith }

end_current_ends : (h o : Option ℕ) (r : Plain) → HoldEnds (option_len o) r (end_current plain h o r)
end_current_ends None o r = hold_same (option_len o) r
end_current_ends (Some b) None r =
    let f = buffer_at r.model b in
    sent_living (HoldEnds 0 r) (release f.client) f.id r (hold_same 0 r)
    (λ i. record { surfaces = refl; objects = refl; buffers = refl; size = refl; callbacks = refl; waiting = omega arith; events = omega (arith, length_push r.events (release f.client i)) })
end_current_ends (Some b) (Some k) r =
    record { surfaces = refl; objects = refl; buffers = refl; size = refl; callbacks = refl; waiting = omega (arith, length_push r.model.waiting (record { buffer = b; mark = k })); events = omega arith }

end_current_roots : (h o : Option ℕ) (r : Plain) → (end_current plain h o r).model.roots ≡ r.model.roots
end_current_roots None o r = refl
end_current_roots (Some b) None r = ap (λ (m : Model). m.roots) (end_hold_model b r)
end_current_roots (Some b) (Some k) r = refl

-- the sub-surface object of a surface that ends has no surface any more
abbrev orphaned : Option ℕ → List (Option Object) → List (Option Object)
orphaned None os = os
orphaned (Some k) os = changed k (as_inert None) os

orphan : (x : ℕ) (o : Option Object) → surface_of (kind_of (option_map (as_inert None) o)) ≡ Some x → ⊥
orphan x None e = none-some x e
orphan x (Some v) e = none-some x e

orphaned_kinds : (o : Option ℕ) (os : List (Option Object)) (k x : ℕ) → surface_of (kind_in (orphaned o os) k) ≡ Some x → (kind_in (orphaned o os) k ≡ kind_in os k) × (o ≡ Some k → ⊥)
orphaned_kinds None os k x e = (refl, none-some k)
orphaned_kinds (Some j) os k x e =
    let new = option_map (as_inert None) (get_or os j None) in
    elim (cases_eq k j) [
      | inl z ↦ absurd (put_here None (λ o. surface_of (kind_of o) ≡ Some x → ⊥) os j new (orphan x (get_or os j None)) (none-some x)
          (subst (λ y. surface_of (kind_in (orphaned (Some j) os) y) ≡ Some x) z e))
      | inr n ↦ (ap kind_of (get_or-set_other os j k new None n), λ h. n (sym (same_Some j k h)))
    ]

ended_tree : (p : ℕ) (o : Option ℕ) (m : Model) → (surface_at m p).object ≡ o → (surface_at m p).parent ≡ None → Tree m.surfaces m.objects
    → Tree (free_surface p (made_inert o None m)).surfaces (free_surface p (made_inert o None m)).objects
ended_tree p None m e n a =
    tree_replaced m.surfaces m.objects (orphaned None m.objects) p None a n refl refl tt (λ c k. absurd k) (λ c k. absurd k)
    (λ k x h. let w = orphaned_kinds None m.objects k x h in (w.0, λ z. w.1 (sym e ∙ z)))
ended_tree p (Some j) m e n a =
    tree_replaced m.surfaces m.objects (orphaned (Some j) m.objects) p None a n refl refl tt (λ c k. absurd k) (λ c k. absurd k)
    (λ k x h. let w = orphaned_kinds (Some j) m.objects k x h in (w.0, λ z. w.1 (sym e ∙ z)))

-- a root less
pub roots_without : (p : ℕ) (ps : List ℕ) → Roots ps → Roots (without p ps)
roots_without p ps a =
    record { once = once_kept (λ q. not (eqb q p)) ps a.once; places = all_kept_by (λ q. not (eqb q p)) (λ q. q < most) ps a.places }

-- what else the end of a surface leaves
record SurfaceEnds (p : ℕ) (m n : Model) : Type 0 where
  surfaces : n.surfaces ≡ set m.surfaces p None
  buffers : n.buffers ≡ m.buffers
  size : n.size ≡ m.size
  roots : n.roots ≡ m.roots
  callbacks : n.callbacks ≡ m.callbacks
  waiting : n.waiting ≡ m.waiting

surface_ends : (p : ℕ) (o : Option ℕ) (m : Model) → SurfaceEnds p m (free_surface p (made_inert o None m))
surface_ends p None m = record { surfaces = refl; buffers = refl; size = refl; roots = refl; callbacks = refl; waiting = refl }
surface_ends p (Some k) m = record { surfaces = refl; buffers = refl; size = refl; roots = refl; callbacks = refl; waiting = refl }

linked_few : (m : Model) → Sound m → linked_in m.surfaces ≤ most
linked_few m a = omega (arith, sum_ones (λ (s : Surface). option_len s.parent) (λ s. one_most s.parent) m.surfaces, a.tree.orders.places)

module _ (m : Model) (p : ℕ) (a : Sound m) where
  d₁ : Plain
  d₁ = unlink plain p (unlink_children plain p (start m))

  d₂ : Plain
  d₂ = in_model (λ n. with_roots (without p n.roots) n) d₁

  d₃ : Plain
  d₃ = end_current plain (at d₂ p).current.hold (at d₂ p).current.mark d₂

  d₄ : Plain
  d₄ = end_callbacks plain (λ k. eqb k.surface p) d₃

  ends₁ : Ends 0 (start m) d₁
  unfolding d₁
  ends₁ = ends_then 0 0 (start m) (unlink_children plain p (start m)) d₁ (unlink_children_ends p (start m)) (unlink_ends p (unlink_children plain p (start m)))

  tree₁ : TreeOf d₁
  unfolding d₁
  tree₁ = unlink_tree p (unlink_children plain p (start m)) (unlink_children_tree p (start m) a.tree)

  alone₁ : (at d₁ p).parent ≡ None
  unfolding d₁
  alone₁ = unlink_gone p (unlink_children plain p (start m))

  hold₃ : HoldEnds (mark_one (at d₁ p)) d₁ d₃
  unfolding d₃ d₂
  hold₃ =
      let h = end_current_ends (at d₂ p).current.hold (at d₂ p).current.mark d₂ in
      record { surfaces = h.surfaces; objects = h.objects; buffers = h.buffers; size = h.size; callbacks = h.callbacks; waiting = h.waiting; events = h.events }

  roots₃ : d₃.model.roots ≡ without p m.roots
  unfolding d₃ d₂
  roots₃ = end_current_roots (at d₂ p).current.hold (at d₂ p).current.mark d₂ ∙ ap (without p) ends₁.roots

  model₄ : d₄.model.surfaces ≡ d₁.model.surfaces
  unfolding d₄
  model₄ = ap (λ (n : Model). n.surfaces) (end_callbacks_model (λ k. eqb k.surface p) d₃) ∙ hold₃.surfaces

  objects₄ : d₄.model.objects ≡ d₁.model.objects
  unfolding d₄
  objects₄ = ap (λ (n : Model). n.objects) (end_callbacks_model (λ k. eqb k.surface p) d₃) ∙ hold₃.objects

  tree₄ : TreeOf d₄
  tree₄ = tree_same d₁.model d₄.model model₄ objects₄ tree₁

  alone₄ : (at d₄ p).parent ≡ None
  alone₄ = ap (λ (t : List (Option Surface)). parent_in t p) model₄ ∙ alone₁

  -- the end of the record
  last : Model
  last = free_surface p (made_inert (at d₄ p).object None d₄.model)

  ended : SurfaceEnds p d₄.model last
  unfolding last
  ended = surface_ends p (at d₄ p).object d₄.model

  ends₄ : Ends 0 d₃ d₄
  unfolding d₄
  ends₄ = end_callbacks_ends (λ k. eqb k.surface p) d₃

  glass_ended : on_glass last.surfaces last.waiting ≤ most
  glass_ended =
      let t = d₁.model.surfaces in
      omega (
        arith,
        ap (λ (x : List (Option Surface)). sum_by mark_one (records x)) ended.surfaces,
        ap length ended.waiting,
        ap (λ (x : List (Option Surface)). sum_by mark_one (records (set x p None))) model₄,
        put_sum no_surface mark_one refl t p None,
        ends₄.glass,
        ap (λ (x : List (Option Surface)). sum_by mark_one (records x)) hold₃.surfaces,
        hold₃.waiting,
        ap (λ (x : List (Option Surface)). sum_by mark_one (records x)) model₄,
        ends₁.glass,
        a.glass,
      )

  tree_last : Tree last.surfaces last.objects
  unfolding last
  tree_last = ended_tree p (at d₄ p).object d₄.model refl alone₄ tree₄

  buffers_last : last.buffers ≡ m.buffers
  buffers_last = ended.buffers ∙ (ends₄.buffers ∙ (hold₃.buffers ∙ ends₁.buffers))

  size_last : last.size ≡ m.size
  size_last = ended.size ∙ (ends₄.size ∙ (hold₃.size ∙ ends₁.size))

  roots_last : last.roots ≡ without p m.roots
  roots_last = ended.roots ∙ (ends₄.roots ∙ roots₃)

  sound_ended : Sound last
  sound_ended =
      record {
        tree = tree_last;
        spans = subst (λ (bs : List (Option Buffer)). Spans last.size bs) (sym buffers_last) (subst (λ z. Spans z m.buffers) (sym size_last) a.spans);
        glass = glass_ended;
        roots = subst Roots (sym roots_last) (roots_without p m.roots a.roots);
        callbacks = omega (arith, ap length ended.callbacks, ends₄.callbacks, ap length hold₃.callbacks, ends₁.callbacks, a.callbacks);
      }

  events₄ : length d₄.events ≤ 97
  unfolding d₄
  events₄ =
      omega (arith, end_callbacks_events (λ k. eqb k.surface p) d₃, hold₃.events, ap length hold₃.callbacks, ends₁.owes, linked_few m a, a.callbacks)

  pub destroyed_fine : Fine (destroy plain p (start m))
  unfolding destroy d₁ d₂ d₃ d₄ last
  destroyed_fine =
      record { sound = sound_ended; events = omega (arith, events₄, length_push d₄.events (delete_id (at d₄ p).client (at d₄ p).id)) }

-- wl_subsurface.destroy, after the surface was unlinked
module _ (m : Model) (k : ℕ) (event : Event) (a : Sound m) where
  forgotten : (p : ℕ) (t : Plain) → Ends 0 (start m) t → TreeOf t → (at t p).parent ≡ None → (at t p).object ≡ Some k
      → Fine (send plain event (in_model (free_object k) (edit p (with_object None) t)))
  forgotten p t e b n o =
      let x = t.model.surfaces in
      record {
        sound = record {
          tree = tree_forgotten x t.model.objects k p b n o;
          spans = subst (λ (bs : List (Option Buffer)). Spans t.model.size bs) (sym e.buffers) (subst (λ z. Spans z m.buffers) (sym e.size) a.spans);
          glass = omega (arith, changed_sum no_surface mark_one refl x p (with_object None), e.glass, a.glass);
          roots = subst Roots (sym e.roots) a.roots;
          callbacks = omega (arith, e.callbacks, a.callbacks);
        };
        events = omega (arith, length_push t.events event, e.owes, linked_few m a, a.callbacks);
      }

  object_gone : Fine (send plain event (in_model (free_object k) (start m)))
  object_gone =
      record {
        sound = record { tree = tree_object_gone m.surfaces m.objects k a.tree; spans = a.spans; glass = a.glass; roots = a.roots; callbacks = a.callbacks };
        events = omega arith;
      }

  subsurface_gone : (kind : ObjectKind) → (object_at m k).kind ≡ kind
      → Fine (send plain event (in_model (free_object k) (forget_object plain (surface_of kind) (unlink_linked plain (linked_by kind) (start m)))))
  subsurface_gone Display e = object_gone
  subsurface_gone Compositor e = object_gone
  subsurface_gone Subcompositor e = object_gone
  subsurface_gone (InertSubsurface None) e = object_gone
  subsurface_gone (InertSubsurface (Some p)) e = forgotten p (start m) (ends_same (start m)) a.tree (a.tree.inert k p e) (a.tree.known k p (ap surface_of e))
  subsurface_gone (Subsurface p) e =
      forgotten p (unlink plain p (start m)) (unlink_ends p (start m)) (unlink_tree p (start m) a.tree) (unlink_gone p (start m)) (unlink_object p (start m) ∙ a.tree.known k p (ap surface_of e))

pub subsurface_ended_fine : (m : Model) (k : ℕ) → Sound m → Fine (end_subsurface plain k (linked m k) (start m))
subsurface_ended_fine m k a = subsurface_gone m k (delete_id (object_at m k).client (object_at m k).id) a (object_at m k).kind refl

-- wl_buffer.destroy
detached_alike : (b : ℕ) (s : Surface) → LinkedAlike s (detached b s)
detached_alike b s =
    cond_both (is_of b (held s.pending.attach)) (with_attach Null s) s (LinkedAlike s) (λ _. record { id = refl; parent = refl; object = refl; pending = refl; current = inl refl }) (λ _. alike_same s)

detached_mark : (b : ℕ) (s : Surface) → mark_one (detached b s) ≤ mark_one s
detached_mark b s = cond_both (is_of b (held s.pending.attach)) (with_attach Null s) s (λ (u : Surface). mark_one u ≤ mark_one s) (λ _. omega arith) (λ _. omega arith)

pub buffer_ended_fine : (m : Model) (b : ℕ) → Sound m → Fine (end_buffer plain b (start m))
buffer_ended_fine m b a =
    let f = buffer_at m b in
    let t = m.surfaces in
    let u = map (option_map (detached b)) t in
    let n = edit_buffer b nameless (with_surfaces u m) in
    let sound : Sound n =
    record {
      tree = tree_alike t u m.objects (length-map t (option_map (detached b))) (all_related no_surface LinkedAlike (alike_same no_surface) (detached b) (detached_alike b) t) a.tree;
      spans = spans_nameless m.size m.buffers b a.spans;
      glass = omega (arith, all_sum mark_one (detached b) (detached_mark b) t, a.glass);
      roots = a.roots;
      callbacks = a.callbacks;
    } in
    sent_living Fine (delete_id f.client) f.id (start n) (unchanged_fine n sound) (λ i. record { sound = sound; events = omega arith })
