-- Unlink: what it does to the tree, and how many events it sends.
use Rattle.std.proofs.Common.{◌≡◌, ℕ, ◌+◌, ◌≤◌, Bool, not, eqb, ◌≢◌, ◌⊎◌, List, [], ◌∷◌, length, get_or, Some, None, fold, sum_by, filter, Option, option_map, sym, refl, ap, ◌∙◌, subst, inl, inr, arith, length-set}
use Rattle.std.proofs.lemmas.List.Sums.{length-filter, count_by-le-length}
use Rattle.std.specs.Option.{option_len}
use Rattle.rules.specs.declared.attach.Attach.TheVariants.{Nothing}
use Rattle.rules.specs.declared.callback.Callback.{Callback}
use Rattle.rules.specs.declared.object.Object.{Object}
use Rattle.rules.specs.declared.object.ObjectKind.TheVariants.{InertSubsurface}
use Rattle.rules.specs.declared.stage.Stage.TheVariants.{Cached}
use Rattle.rules.specs.State.{Model, Surface, no_surface, no_object}
use Rattle.rules.specs.Setters.{with_parent, with_cached, with_order, with_pending_order}
use Rattle.rules.specs.Run.{plain, at, edit, in_model}
use Rattle.rules.specs.Hold.{end_cached}
use Rattle.rules.specs.Callback.{end_callbacks, stands}
use Rattle.rules.specs.Table.{changed, without, record_at, records}
use Rattle.rules.specs.Unlink.{as_inert, made_inert, leave, unlink_from, unlink, unlink_children}
use Rattle.bounds.specs.Forest.{parent_in}
use Rattle.bounds.specs.Member.{Member, Once}
use Rattle.bounds.specs.Sound.{Tree, pending_in, current_in, object_in, kind_in, on_glass}
use Rattle.bounds.proofs.Tables.{changed_related, changed_here, changed_other, changed_cases, changed_sum, without_member}
use Rattle.bounds.proofs.Pigeons.{once_kept}
use Rattle.bounds.proofs.Steps.{Plain, mark_one, cached_most, end_cached_model, end_cached_events, end_callbacks_model, end_callbacks_events}
use Rattle.bounds.proofs.Trees.{tree_cut}
use Rattle.std.proofs.lemmas.Option.{same_Some}

-- the two edits of the table
abbrev pub leaving : ℕ → Surface → Surface
leaving p s = with_pending_order (without p s.pending.order) (with_order (without p s.current.order) s)

abbrev pub parting : Surface → Surface
parting s = with_parent None (with_cached Nothing s)

abbrev pub left : ℕ → ℕ → List (Option Surface) → List (Option Surface)
left q p t = changed q (leaving p) t

abbrev pub parted : ℕ → ℕ → List (Option Surface) → List (Option Surface)
parted q p t = changed p parting (left q p t)

-- what leaving and parting keep of a surface
record KeptLinks (s t : Surface) : Type 0 where
  id : t.id ≡ s.id
  object : t.object ≡ s.object
  pending : (c : ℕ) → Member c t.pending.order → Member c s.pending.order
  current : (c : ℕ) → Member c t.current.order → Member c s.current.order
  once : Once s.pending.order → Once t.pending.order

kept_same : (s : Surface) → KeptLinks s s
kept_same s = record { id = refl; object = refl; pending = λ c m. m; current = λ c m. m; once = λ o. o }

module _ (q p : ℕ) (t : List (Option Surface)) where
  kept_left : (x : ℕ) → KeptLinks (record_at no_surface t x) (record_at no_surface (left q p t) x)
  kept_left =
      changed_related no_surface KeptLinks kept_same t q (leaving p)
      (record { id = refl; object = refl; pending = λ c m. (without_member p _ c m).0; current = λ c m. (without_member p _ c m).0; once = once_kept (λ q. not (eqb q p)) _ })

  kept_parted : (x : ℕ) → KeptLinks (record_at no_surface (left q p t) x) (record_at no_surface (parted q p t) x)
  kept_parted = changed_related no_surface KeptLinks kept_same (left q p t) p parting
      (record { id = refl; object = refl; pending = λ c m. m; current = λ c m. m; once = λ o. o })

  parent_left : (x : ℕ) → parent_in (left q p t) x ≡ parent_in t x
  parent_left = changed_related no_surface (λ (s v : Surface). v.parent ≡ s.parent) (λ s. refl) t q (leaving p) refl

  parent_parted : (x : ℕ) → x ≢ p → parent_in (parted q p t) x ≡ parent_in t x
  parent_parted x n = ap (λ (s : Surface). s.parent) (changed_other no_surface (left q p t) p parting x n) ∙ parent_left x

  parent_gone : parent_in (parted q p t) p ≡ None
  parent_gone = changed_here no_surface (λ (s : Surface). s.parent ≡ None) (left q p t) p parting (λ s. refl) refl

  -- p is in no order of q
  not_pending : (c : ℕ) → Member c (pending_in (parted q p t) q) → c ≢ p
  not_pending c m =
      changed_here no_surface (λ (s : Surface). Member c s.pending.order → c ≢ p) t q (leaving p) (λ s k. (without_member p _ c k).1) (λ k. absurd k) ((kept_parted q).pending c m)

  not_current : (c : ℕ) → Member c (current_in (parted q p t) q) → c ≢ p
  not_current c m =
      changed_here no_surface (λ (s : Surface). Member c s.current.order → c ≢ p) t q (leaving p) (λ s k. (without_member p _ c k).1) (λ k. absurd k) ((kept_parted q).current c m)

  places_parted : length (parted q p t) ≡ length t
  places_parted =
      length-set (left q p t) p (option_map parting (get_or (left q p t) p None)) ∙ length-set t q (option_map (leaving p) (get_or t q None))

-- the object that becomes inert
abbrev inert_objects : Option ℕ → ℕ → List (Option Object) → List (Option Object)
inert_objects None p os = os
inert_objects (Some k) p os = changed k (as_inert (Some p)) os

inert_kinds : (o : Option ℕ) (p : ℕ) (os : List (Option Object)) (k : ℕ)
    → (kind_in (inert_objects o p os) k ≡ kind_in os k) ⊎ ((kind_in (inert_objects o p os) k ≡ InertSubsurface (Some p)) × (o ≡ Some k))
inert_kinds None p os k = inl refl
inert_kinds (Some j) p os k =
    elim (changed_cases no_object os j (as_inert (Some p)) k) [
      | inl h ↦ inr (ap (λ (v : Object). v.kind) h.1, ap Some (sym h.0))
      | inr h ↦ inl (ap (λ (v : Object). v.kind) h)
    ]

unlinked_tree : (q p : ℕ) (t : List (Option Surface)) (os : List (Option Object)) → parent_in t p ≡ Some q → Tree t os → Tree (parted q p t) (inert_objects (object_in t p) p os)
unlinked_tree q p t os e a =
    tree_cut p t (parted q p t) os (inert_objects (object_in t p) p os)
    (record {
      places = places_parted q p t;
      id = λ x. (kept_parted q p t x).id ∙ (kept_left q p t x).id;
      object = λ x. (kept_parted q p t x).object ∙ (kept_left q p t x).object;
      parent = parent_parted q p t;
      gone = parent_gone q p t;
      pending = λ x c m. (
        (kept_left q p t x).pending c ((kept_parted q p t x).pending c m),
        λ k. not_pending q p t c (subst (λ y. Member c (pending_in (parted q p t) y)) (same_Some x q (sym k ∙ e)) m),
      );
      current = λ x c m. (
        (kept_left q p t x).current c ((kept_parted q p t x).current c m),
        λ k. not_current q p t c (subst (λ y. Member c (current_in (parted q p t) y)) (same_Some x q (sym k ∙ e)) m),
      );
      once = λ x o. (kept_parted q p t x).once ((kept_left q p t x).once o);
      kinds = inert_kinds (object_in t p) p os;
    })
    a

abbrev linked_one : Surface → ℕ
linked_one s = option_len s.parent

abbrev pub linked_in : List (Option Surface) → ℕ
linked_in t = sum_by linked_one (records t)

-- what a run has spent of its events, or may spend yet by unlinking children and ending callbacks
abbrev pub owed : Plain → ℕ
owed r = length r.events + linked_in r.model.surfaces + length r.model.callbacks

-- the run t comes from r by steps that end something
pub record Ends (n : ℕ) (r t : Plain) : Type 0 where
  pub buffers : t.model.buffers ≡ r.model.buffers
  pub size : t.model.size ≡ r.model.size
  pub roots : t.model.roots ≡ r.model.roots
  pub callbacks : length t.model.callbacks ≤ length r.model.callbacks
  pub glass : on_glass t.model.surfaces t.model.waiting ≤ on_glass r.model.surfaces r.model.waiting
  pub owes : owed t ≤ owed r + n

pub ends_same : (r : Plain) → Ends 0 r r
ends_same r = record { buffers = refl; size = refl; roots = refl; callbacks = omega arith; glass = omega arith; owes = omega arith }

pub ends_then : (n k : ℕ) (r t u : Plain) → Ends n r t → Ends k t u → Ends (n + k) r u
ends_then n k r t u a b =
    record {
      buffers = b.buffers ∙ a.buffers;
      size = b.size ∙ a.size;
      roots = b.roots ∙ a.roots;
      callbacks = omega (arith, a.callbacks, b.callbacks);
      glass = omega (arith, a.glass, b.glass);
      owes = omega (arith, a.owes, b.owes);
    }

-- callbacks end: each an event
pub end_callbacks_ends : (test : Callback → Bool) (r : Plain) → Ends 0 r (end_callbacks plain test r)
end_callbacks_ends test r =
    let e = end_callbacks_model test r in
    let ks = filter (λ k. not (test k)) r.model.callbacks in
    record {
      buffers = ap (λ (m : Model). m.buffers) e;
      size = ap (λ (m : Model). m.size) e;
      roots = ap (λ (m : Model). m.roots) e;
      callbacks = omega (arith, ap (λ (m : Model). length m.callbacks) e, length-filter (λ k. not (test k)) r.model.callbacks, count_by-le-length (λ k. not (test k)) r.model.callbacks);
      glass = omega (arith, ap (λ (m : Model). on_glass m.surfaces m.waiting) e);
      owes = omega (arith, ap (λ (m : Model). linked_in m.surfaces) e, end_callbacks_events test r);
    }

-- a run with the same model, and some events more
pub sent_ends : (n : ℕ) (r t : Plain) → t.model ≡ r.model → length t.events ≤ length r.events + n → Ends n r t
sent_ends n r t e h =
    record {
      buffers = ap (λ (m : Model). m.buffers) e;
      size = ap (λ (m : Model). m.size) e;
      roots = ap (λ (m : Model). m.roots) e;
      callbacks = omega (arith, ap (λ (m : Model). length m.callbacks) e);
      glass = omega (arith, ap (λ (m : Model). on_glass m.surfaces m.waiting) e);
      owes = omega (arith, ap (λ (m : Model). linked_in m.surfaces) e, ap (λ (m : Model). length m.callbacks) e, h);
    }

-- the surface p leaves q
abbrev parting_run : ℕ → ℕ → Plain → Plain
parting_run q p r = edit p parting (in_model (made_inert (at r p).object (Some p)) (leave plain q p r))

made_inert_surfaces : (o s : Option ℕ) (m : Model) → (made_inert o s m).surfaces ≡ m.surfaces
made_inert_surfaces None s m = refl
made_inert_surfaces (Some k) s m = refl

parting_surfaces : (q p : ℕ) (r : Plain) → (parting_run q p r).model.surfaces ≡ parted q p r.model.surfaces
parting_surfaces q p r =
    ap (λ (t : List (Option Surface)). changed p parting t) (made_inert_surfaces (at r p).object (Some p) (leave plain q p r).model)

-- a child less pays for the event of its cached hold
record Parts (r t : Plain) : Type 0 where
  buffers : t.model.buffers ≡ r.model.buffers
  size : t.model.size ≡ r.model.size
  roots : t.model.roots ≡ r.model.roots
  callbacks : t.model.callbacks ≡ r.model.callbacks
  glass : on_glass t.model.surfaces t.model.waiting ≤ on_glass r.model.surfaces r.model.waiting
  owes : owed t + 1 ≤ owed r

marks_parted : (q p : ℕ) (t : List (Option Surface)) → sum_by mark_one (records (parted q p t)) ≤ sum_by mark_one (records t)
marks_parted q p t =
    omega (arith, changed_sum no_surface mark_one refl t q (leaving p), changed_sum no_surface mark_one refl (left q p t) p parting)

links_parted : (q p : ℕ) (t : List (Option Surface)) → parent_in t p ≡ Some q → linked_in (parted q p t) + 1 ≤ linked_in t
links_parted q p t e =
    omega (arith, changed_sum no_surface linked_one refl t q (leaving p), changed_sum no_surface linked_one refl (left q p t) p parting, ap option_len (parent_left q p t p ∙ e))

parting_parts : (q p : ℕ) (o : Option ℕ) (r : Plain) → (at r p).parent ≡ Some q → Parts r (edit p parting (in_model (made_inert o (Some p)) (leave plain q p r)))
parting_parts q p None r e =
    let t = r.model.surfaces in
    record { buffers = refl; size = refl; roots = refl; callbacks = refl; glass = omega (arith, marks_parted q p t); owes = omega (arith, links_parted q p t e) }
parting_parts q p (Some k) r e =
    let t = r.model.surfaces in
    record { buffers = refl; size = refl; roots = refl; callbacks = refl; glass = omega (arith, marks_parted q p t); owes = omega (arith, links_parted q p t e) }

unlink_from_ends : (o : Option ℕ) (p : ℕ) (r : Plain) → (at r p).parent ≡ o → Ends 0 r (unlink_from plain o p r)
unlink_from_ends None p r e = ends_same r
unlink_from_ends (Some q) p r e =
    let t = parting_run q p r in
    let a = parting_parts q p (at r p).object r e in
    let u = end_cached plain (at r p).cached t in
    let b = sent_ends 1 t u (end_cached_model (at r p).cached t) (omega (arith, end_cached_events (at r p).cached t, cached_most (at r p).cached)) in
    let c = end_callbacks_ends (stands p Cached) u in
    record {
      buffers = c.buffers ∙ (b.buffers ∙ a.buffers);
      size = c.size ∙ (b.size ∙ a.size);
      roots = c.roots ∙ (b.roots ∙ a.roots);
      callbacks = omega (arith, c.callbacks, b.callbacks, ap length a.callbacks);
      glass = omega (arith, c.glass, b.glass, a.glass);
      owes = omega (arith, c.owes, b.owes, a.owes);
    }

pub unlink_ends : (p : ℕ) (r : Plain) → Ends 0 r (unlink plain p r)
unfolding unlink
unlink_ends p r = unlink_from_ends (at r p).parent p r refl

-- the tree after
abbrev pub TreeOf : Plain → Type 0
TreeOf r = Tree r.model.surfaces r.model.objects

parting_tree : (q p : ℕ) (o : Option ℕ) (r : Plain) → (at r p).parent ≡ Some q → (at r p).object ≡ o → TreeOf r → TreeOf (edit p parting (in_model (made_inert o (Some p)) (leave plain q p r)))
parting_tree q p None r e k a =
    subst (λ (o : Option ℕ). Tree (parted q p r.model.surfaces) (inert_objects o p r.model.objects)) k (unlinked_tree q p r.model.surfaces r.model.objects e a)
parting_tree q p (Some j) r e k a =
    subst (λ (o : Option ℕ). Tree (parted q p r.model.surfaces) (inert_objects o p r.model.objects)) k (unlinked_tree q p r.model.surfaces r.model.objects e a)

-- a run with the same surfaces and objects
pub tree_same : (m n : Model) → n.surfaces ≡ m.surfaces → n.objects ≡ m.objects → Tree m.surfaces m.objects → Tree n.surfaces n.objects
tree_same m n e k a = subst (λ (os : List (Option Object)). Tree n.surfaces os) (sym k) (subst (λ (t : List (Option Surface)). Tree t m.objects) (sym e) a)

unlink_from_tree : (o : Option ℕ) (p : ℕ) (r : Plain) → (at r p).parent ≡ o → TreeOf r → TreeOf (unlink_from plain o p r)
unlink_from_tree None p r e a = a
unlink_from_tree (Some q) p r e a =
    let t = parting_run q p r in
    let u = end_cached plain (at r p).cached t in
    let v = end_callbacks plain (stands p Cached) u in
    let b = end_cached_model (at r p).cached t in
    let c = end_callbacks_model (stands p Cached) u in
    tree_same t.model v.model (ap (λ (m : Model). m.surfaces) c ∙ ap (λ (m : Model). m.surfaces) b) (ap (λ (m : Model). m.objects) c ∙ ap (λ (m : Model). m.objects) b)
    (parting_tree q p (at r p).object r e refl a)

pub unlink_tree : (p : ℕ) (r : Plain) → TreeOf r → TreeOf (unlink plain p r)
unfolding unlink
unlink_tree p r a = unlink_from_tree (at r p).parent p r refl a

-- the surfaces after
unlinked_surfaces : (q p : ℕ) (r : Plain) → (unlink_from plain (Some q) p r).model.surfaces ≡ parted q p r.model.surfaces
unlinked_surfaces q p r =
    let t = parting_run q p r in
    let u = end_cached plain (at r p).cached t in
    ap (λ (m : Model). m.surfaces) (end_callbacks_model (stands p Cached) u) ∙ (ap (λ (m : Model). m.surfaces) (end_cached_model (at r p).cached t) ∙ parting_surfaces q p r)

-- an unlinked surface has no parent
unlink_from_gone : (o : Option ℕ) (p : ℕ) (r : Plain) → (at r p).parent ≡ o → (at (unlink_from plain o p r) p).parent ≡ None
unlink_from_gone None p r e = e
unlink_from_gone (Some q) p r e = ap (λ (x : List (Option Surface)). parent_in x p) (unlinked_surfaces q p r) ∙ parent_gone q p r.model.surfaces

pub unlink_gone : (p : ℕ) (r : Plain) → (at (unlink plain p r) p).parent ≡ None
unfolding unlink
unlink_gone p r = unlink_from_gone (at r p).parent p r refl

-- and knows its object still
unlink_from_object : (o : Option ℕ) (p : ℕ) (r : Plain) → (at r p).parent ≡ o → (at (unlink_from plain o p r) p).object ≡ (at r p).object
unlink_from_object None p r e = refl
unlink_from_object (Some q) p r e =
    let t = r.model.surfaces in
    ap (λ (x : List (Option Surface)). object_in x p) (unlinked_surfaces q p r) ∙ ((kept_parted q p t p).object ∙ (kept_left q p t p).object)

pub unlink_object : (p : ℕ) (r : Plain) → (at (unlink plain p r) p).object ≡ (at r p).object
unfolding unlink
unlink_object p r = unlink_from_object (at r p).parent p r refl

-- several surfaces, one after the other
unlinks_ends : (cs : List ℕ) (r : Plain) → Ends 0 r (fold (λ t c. unlink plain c t) r cs)
unlinks_ends [] r = ends_same r
unlinks_ends (c ∷ cs) r =
    let t = unlink plain c r in
    ends_then 0 0 r t (fold (λ u x. unlink plain x u) t cs) (unlink_ends c r) (unlinks_ends cs t)

unlinks_tree : (cs : List ℕ) (r : Plain) → TreeOf r → TreeOf (fold (λ t c. unlink plain c t) r cs)
unlinks_tree [] r a = a
unlinks_tree (c ∷ cs) r a = unlinks_tree cs (unlink plain c r) (unlink_tree c r a)

pub unlink_children_ends : (p : ℕ) (r : Plain) → Ends 0 r (unlink_children plain p r)
unfolding unlink_children
unlink_children_ends p r = unlinks_ends (without p (at r p).pending.order) r

pub unlink_children_tree : (p : ℕ) (r : Plain) → TreeOf r → TreeOf (unlink_children plain p r)
unfolding unlink_children
unlink_children_tree p r a = unlinks_tree (without p (at r p).pending.order) r a
