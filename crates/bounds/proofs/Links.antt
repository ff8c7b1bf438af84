-- The tree as surfaces are made, adopted, placed and ended, and as sub-surface objects end.
use Rattle.std.proofs.Common.{◌≡◌, ℕ, ◌<◌, true, ◌≢◌, ◌⊎◌, List, [], ◌∷◌, ◌++◌, length, get_or, set, pos, Some, None, Option, option_map, sym, refl, ap, ◌∙◌, subst, inl, inr, arith, length-set, get_or-set_other, unwrap_or}
use Rattle.std.proofs.lemmas.Bool.{cases_eq}
use Rattle.std.proofs.lemmas.Option.{none-some, same_Some}
use Rattle.rules.specs.declared.object.Object.{Object}
use Rattle.rules.specs.declared.object.ObjectKind.{ObjectKind}
use Rattle.rules.specs.declared.object.ObjectKind.TheVariants.{Subsurface, InertSubsurface}
use Rattle.rules.specs.declared.role.Role.TheVariants.{Sub}
use Rattle.rules.specs.State.{Surface, surface_of, no_surface, no_object}
use Rattle.rules.specs.Setters.{with_object, with_parent, with_role, with_sync, with_pending_position, with_pending_order}
use Rattle.bounds.specs.Forest.{parent_in, Climb, stay}
use Rattle.bounds.specs.Member.{Member, Once}
use Rattle.bounds.specs.Sound.{Tree, pending_in, current_in, object_in, kind_in}
use Rattle.bounds.proofs.Tables.{changed_related, changed_here, changed_same, changed_other, changed_cases, put_here, put_cases, put_record_cases, added_member}
use Rattle.bounds.proofs.Pigeons.{once_added}
use Rattle.bounds.proofs.Forests.{pruned, adopted}
use Rattle.rules.specs.Table.{record_at, changed}

not_inert : (p : ℕ) (o : Option ℕ) → ◌≡◌ {A = ObjectKind} (Subsurface p) (InertSubsurface o) → ⊥
not_inert p o e = let z : ◌≡◌ {A = ℕ} 0 1 = cc in omega arith

-- the kind in a place of a table of objects
abbrev pub kind_of : Option Object → ObjectKind
kind_of o = (unwrap_or o no_object).kind

-- fewer sub-surface objects
pub tree_fewer : (t : List (Option Surface)) (os ps : List (Option Object)) → ((k x : ℕ) → surface_of (kind_in ps k) ≡ Some x → kind_in ps k ≡ kind_in os k) → Tree t os → Tree t ps
tree_fewer t os ps h a =
    record {
      orders = a.orders;
      linked = a.linked;
      inert = λ k x e. a.inert k x (sym (h k x (ap surface_of e)) ∙ e);
      known = λ k x e. a.known k x (ap surface_of (sym (h k x e)) ∙ e);
    }

-- the sub-surface object at k is gone
gone_kinds : (os : List (Option Object)) (k j x : ℕ) → surface_of (kind_in (set os k None) j) ≡ Some x → (kind_in (set os k None) j ≡ kind_in os j) × (j ≢ k)
gone_kinds os k j x e =
    elim (cases_eq j k) [
      | inl z ↦ absurd (put_here None (λ o. surface_of (kind_of o) ≡ Some x → ⊥) os k None (none-some x) (none-some x)
          (subst (λ y. surface_of (kind_in (set os k None) y) ≡ Some x) z e))
      | inr n ↦ (ap kind_of (get_or-set_other os k j None None n), n)
    ]

pub tree_object_gone : (t : List (Option Surface)) (os : List (Option Object)) (k : ℕ) → Tree t os → Tree t (set os k None)
tree_object_gone t os k a = tree_fewer t os (set os k None) (λ j x e. (gone_kinds os k j x e).0) a

-- and its surface, which has no parent, forgets it
module _ (t : List (Option Surface)) (os : List (Option Object)) (k p : ℕ) (a : Tree t os) (alone : parent_in t p ≡ None) (its : object_in t p ≡ Some k) where
  record Forgets (s u : Surface) : Type 0 where
    id : u.id ≡ s.id
    parent : u.parent ≡ s.parent
    pending : u.pending.order ≡ s.pending.order
    current : u.current.order ≡ s.current.order

  forgets : (x : ℕ) → Forgets (record_at no_surface t x) (record_at no_surface (changed p (with_object None) t) x)
  forgets = changed_related no_surface Forgets (λ s. record { id = refl; parent = refl; pending = refl; current = refl }) t p (with_object None) (record { id = refl; parent = refl; pending = refl; current = refl })

  object_kept : (x : ℕ) → x ≢ p → object_in (changed p (with_object None) t) x ≡ object_in t x
  object_kept x n = ap (λ (s : Surface). s.object) (changed_other no_surface t p (with_object None) x n)

  object_gone : object_in (changed p (with_object None) t) p ≡ None
  object_gone = changed_here no_surface (λ (s : Surface). s.object ≡ None) t p (with_object None) (λ s. refl) refl

  linked_forgotten : (x q : ℕ) → parent_in (changed p (with_object None) t) x ≡ Some q → object_in (changed p (with_object None) t) x ≡ None → ⊥
  linked_forgotten x q e n =
      let was = sym (forgets x).parent ∙ e in
      elim (cases_eq x p) [
        | inl z ↦ none-some q (sym (sym (subst (λ y. parent_in t y ≡ Some q) z was) ∙ alone))
        | inr z ↦ a.linked x q was (sym (object_kept x z) ∙ n)
      ]

  known_forgotten : (j x : ℕ) → surface_of (kind_in (set os k None) j) ≡ Some x → object_in (changed p (with_object None) t) x ≡ Some j
  known_forgotten j x e =
      let g = gone_kinds os k j x e in
      let o = a.known j x (ap surface_of (sym g.0) ∙ e) in
      elim (cases_eq x p) [
        | inl z ↦ absurd (g.1 (same_Some j k (sym (subst (λ y. object_in t y ≡ Some j) z o) ∙ its)))
        | inr z ↦ object_kept x z ∙ o
      ]

  pub tree_forgotten : Tree (changed p (with_object None) t) (set os k None)
  tree_forgotten =
      record {
        orders = record {
          places = length-set t p (option_map (with_object None) (get_or t p None)) ∙ a.orders.places;
          forest = pruned t (changed p (with_object None) t) a.orders.forest (length-set t p (option_map (with_object None) (get_or t p None))) (λ x. inl (forgets x).parent);
          pending = λ q c m. elim (a.orders.pending q c (subst (λ (xs : List ℕ). Member c xs) (forgets q).pending m)) [ inl z ↦ inl z | inr z ↦ inr ((forgets c).parent ∙ z) ];
          current = λ q c m. elim (a.orders.current q c (subst (λ (xs : List ℕ). Member c xs) (forgets q).current m)) [ inl z ↦ inl z | inr z ↦ inr ((forgets c).parent ∙ z) ];
          once = λ q. subst Once (sym (forgets q).pending) (a.orders.once q);
        };
        linked = linked_forgotten;
        inert = λ j x e. (forgets x).parent ∙ a.inert j x (sym (gone_kinds os k j x (ap surface_of e)).0 ∙ e);
        known = known_forgotten;
      }

-- what stays of a surface where its pending order changes
record Reordered (s u : Surface) : Type 0 where
  id : u.id ≡ s.id
  parent : u.parent ≡ s.parent
  object : u.object ≡ s.object
  current : u.current.order ≡ s.current.order

-- a surface with its pending order changed
abbrev pub reordering : (List ℕ → List ℕ) → Surface → Surface
reordering g s = with_pending_order (g s.pending.order) s

-- another pending order, of q itself and its children
module _ (t : List (Option Surface)) (os : List (Option Object)) (q : ℕ) (g : List ℕ → List ℕ)
    (h : (c : ℕ) → Member c (g (pending_in t q)) → (c ≡ q) ⊎ (parent_in t c ≡ Some q)) (o : Once (g (pending_in t q))) (a : Tree t os) where
  reordered : (x : ℕ) → Reordered (record_at no_surface t x) (record_at no_surface (changed q (reordering g) t) x)
  reordered = changed_related no_surface Reordered (λ s. record { id = refl; parent = refl; object = refl; current = refl }) t q (reordering g) (record { id = refl; parent = refl; object = refl; current = refl })

  pending_reordered : (x c : ℕ) → Member c (pending_in (changed q (reordering g) t) x) → (c ≡ x) ⊎ (parent_in t c ≡ Some x)
  pending_reordered x c m =
      elim (changed_cases no_surface t q (reordering g) x) [
        | inl z ↦ subst (λ y. Member c (g (pending_in t y)) → (c ≡ y) ⊎ (parent_in t c ≡ Some y)) (sym z.0) (h c) (subst (λ (s : Surface). Member c s.pending.order) z.1 m)
        | inr z ↦ a.orders.pending x c (subst (λ (s : Surface). Member c s.pending.order) z m)
      ]

  once_reordered : (x : ℕ) → Once (pending_in (changed q (reordering g) t) x)
  once_reordered x =
      elim (changed_cases no_surface t q (reordering g) x) [
        | inl z ↦ subst (λ (s : Surface). Once s.pending.order) (sym z.1) (subst (λ y. Once (g (pending_in t y))) (sym z.0) o)
        | inr z ↦ subst (λ (s : Surface). Once s.pending.order) (sym z) (a.orders.once x)
      ]

  pub tree_reordered : Tree (changed q (reordering g) t) os
  tree_reordered =
      let long = length-set t q (option_map (reordering g) (get_or t q None)) in
      record {
        orders = record {
          places = long ∙ a.orders.places;
          forest = pruned t (changed q (reordering g) t) a.orders.forest long (λ x. inl (reordered x).parent);
          pending = λ x c m. elim (pending_reordered x c m) [ inl z ↦ inl z | inr z ↦ inr ((reordered c).parent ∙ z) ];
          current = λ x c m. elim (a.orders.current x c (subst (λ (ys : List ℕ). Member c ys) (reordered x).current m)) [ inl z ↦ inl z | inr z ↦ inr ((reordered c).parent ∙ z) ];
          once = once_reordered;
        };
        linked = λ p x e n. a.linked p x (sym (reordered p).parent ∙ e) (sym (reordered p).object ∙ n);
        inert = λ k p e. (reordered p).parent ∙ a.inert k p e;
        known = λ k p e. (reordered p).object ∙ a.known k p e;
      }

-- the record at p is replaced: the old surface had no parent, and the new one, if there is one, has none, knows no object, and has nobody but itself in its orders
module _ (t : List (Option Surface)) (os ps : List (Option Object)) (p : ℕ) (new : Option Surface) (a : Tree t os) (alone : parent_in t p ≡ None)
    (parent : (unwrap_or new no_surface).parent ≡ None) (object : (unwrap_or new no_surface).object ≡ None)
    (once : Once (unwrap_or new no_surface).pending.order) (pending : (c : ℕ) → Member c (unwrap_or new no_surface).pending.order → c ≡ p) (current : (c : ℕ) → Member c (unwrap_or new no_surface).current.order → c ≡ p)
    (kinds : (k x : ℕ) → surface_of (kind_in ps k) ≡ Some x → (kind_in ps k ≡ kind_in os k) × (object_in t p ≡ Some k → ⊥)) where
  parents_kept : (x : ℕ) → parent_in (set t p new) x ≡ parent_in t x
  parents_kept x =
      elim (put_record_cases no_surface t p new x) [
        | inl z ↦ ap (λ (s : Surface). s.parent) z.1 ∙ (parent ∙ sym (subst (λ y. parent_in t y ≡ None) (sym z.0) alone))
        | inr z ↦ ap (λ (s : Surface). s.parent) z
      ]

  objects_kept : (x : ℕ) → ((x ≡ p) × (object_in (set t p new) x ≡ None)) ⊎ (object_in (set t p new) x ≡ object_in t x)
  objects_kept x =
      elim (put_record_cases no_surface t p new x) [
        | inl z ↦ inl (z.0, ap (λ (s : Surface). s.object) z.1 ∙ object)
        | inr z ↦ inr (ap (λ (s : Surface). s.object) z)
      ]

  child_kept : (q c : ℕ) → (c ≡ q) ⊎ (parent_in t c ≡ Some q) → (c ≡ q) ⊎ (parent_in (set t p new) c ≡ Some q)
  child_kept q c (inl e) = inl e
  child_kept q c (inr e) = inr (parents_kept c ∙ e)

  pending_kept : (q c : ℕ) → Member c (pending_in (set t p new) q) → (c ≡ q) ⊎ (parent_in t c ≡ Some q)
  pending_kept q c m =
      elim (put_record_cases no_surface t p new q) [
        | inl z ↦ inl (pending c (subst (λ (s : Surface). Member c s.pending.order) z.1 m) ∙ sym z.0)
        | inr z ↦ a.orders.pending q c (subst (λ (s : Surface). Member c s.pending.order) z m)
      ]

  current_kept : (q c : ℕ) → Member c (current_in (set t p new) q) → (c ≡ q) ⊎ (parent_in t c ≡ Some q)
  current_kept q c m =
      elim (put_record_cases no_surface t p new q) [
        | inl z ↦ inl (current c (subst (λ (s : Surface). Member c s.current.order) z.1 m) ∙ sym z.0)
        | inr z ↦ a.orders.current q c (subst (λ (s : Surface). Member c s.current.order) z m)
      ]

  once_kept_here : (q : ℕ) → Once (pending_in (set t p new) q)
  once_kept_here q =
      elim (put_record_cases no_surface t p new q) [
        | inl z ↦ subst (λ (s : Surface). Once s.pending.order) (sym z.1) once
        | inr z ↦ subst (λ (s : Surface). Once s.pending.order) (sym z) (a.orders.once q)
      ]

  linked_kept : (x q : ℕ) → parent_in (set t p new) x ≡ Some q → object_in (set t p new) x ≡ None → ⊥
  linked_kept x q e n =
      let was = sym (parents_kept x) ∙ e in
      elim (objects_kept x) [
        | inl z ↦ none-some q (sym (sym (subst (λ y. parent_in t y ≡ Some q) z.0 was) ∙ alone))
        | inr z ↦ a.linked x q was (sym z ∙ n)
      ]

  known_kept : (k x : ℕ) → surface_of (kind_in ps k) ≡ Some x → object_in (set t p new) x ≡ Some k
  known_kept k x e =
      let was = kinds k x e in
      let o = a.known k x (ap surface_of (sym was.0) ∙ e) in
      elim (objects_kept x) [ inl z ↦ absurd (was.1 (subst (λ y. object_in t y ≡ Some k) z.0 o)) | inr z ↦ z ∙ o ]

  pub tree_replaced : Tree (set t p new) ps
  tree_replaced =
      record {
        orders = record {
          places = length-set t p new ∙ a.orders.places;
          forest = pruned t (set t p new) a.orders.forest (length-set t p new) (λ x. inl (parents_kept x));
          pending = λ q c m. child_kept q c (pending_kept q c m);
          current = λ q c m. child_kept q c (current_kept q c m);
          once = once_kept_here;
        };
        linked = linked_kept;
        inert = λ k x e. parents_kept x ∙ a.inert k x (sym (kinds k x (ap surface_of e)).0 ∙ e);
        known = known_kept;
      }

-- what stays of a surface that is adopted
record Adopts (u v : Surface) : Type 0 where
  id : v.id ≡ u.id
  pending : v.pending.order ≡ u.pending.order
  current : v.current.order ≡ u.current.order

abbrev pub child_of : ℕ → ℕ → Surface → Surface
child_of k q s = with_pending_position (pos 0) (pos 0) (with_sync true (with_object (Some k) (with_parent (Some q) (with_role (Some Sub) s))))

abbrev pub with_child : ℕ → ℕ → ℕ → List (Option Surface) → List (Option Surface)
with_child k s q t = changed s (child_of k q) t

abbrev pub subsurface_object : ℕ → ℕ → ℕ → Object
subsurface_object client id s = record { client = client; id = id; kind = Subsurface s }

-- a surface without object and parent becomes a child of q, by the sub-surface object at k
module _ (t : List (Option Surface)) (os : List (Option Object)) (k client id s q : ℕ) (a : Tree t os) (was : Surface) (here : get_or t s None ≡ Some was) (there : q < length t)
    (alone : object_in t s ≡ None) (apart : (n : ℕ) → Climb t n q s → ⊥) where
  made : Object
  made = subsurface_object client id s

  t₁ : List (Option Surface)
  t₁ = with_child k s q t

  child_parent : parent_in t₁ s ≡ Some q
  unfolding t₁
  child_parent = ap (λ (v : Surface). v.parent) (changed_same no_surface t s (child_of k q) was here)

  child_object : object_in t₁ s ≡ Some k
  unfolding t₁
  child_object = ap (λ (v : Surface). v.object) (changed_same no_surface t s (child_of k q) was here)

  other : (x : ℕ) → x ≢ s → record_at no_surface t₁ x ≡ record_at no_surface t x
  unfolding t₁
  other x n = changed_other no_surface t s (child_of k q) x n

  adopts : (x : ℕ) → Adopts (record_at no_surface t x) (record_at no_surface t₁ x)
  unfolding t₁
  adopts = changed_related no_surface Adopts (λ v. record { id = refl; pending = refl; current = refl }) t s (child_of k q) (record { id = refl; pending = refl; current = refl })

  no_parent : (x : ℕ) → parent_in t s ≡ Some x → ⊥
  no_parent x e = a.linked s x e alone

  child_now : (x c : ℕ) → (c ≡ x) ⊎ (parent_in t c ≡ Some x) → (c ≡ x) ⊎ (parent_in t₁ c ≡ Some x)
  child_now x c (inl e) = inl e
  child_now x c (inr e) =
      elim (cases_eq c s) [
        | inl z ↦ absurd (no_parent x (subst (λ y. parent_in t y ≡ Some x) z e))
        | inr n ↦ inr (ap (λ (v : Surface). v.parent) (other c n) ∙ e)
      ]

  made_kinds : (j x : ℕ) → surface_of (kind_in (set os k (Some made)) j) ≡ Some x
      → (kind_in (set os k (Some made)) j ≡ kind_in os j) ⊎ ((x ≡ s) × (j ≡ k) × (kind_in (set os k (Some made)) j ≡ Subsurface s))
  unfolding made
  made_kinds j x e =
      elim (put_cases None os k (Some made) j) [
        | inl z ↦ (let w = ap kind_of z.1 in inr (same_Some x s (sym e ∙ ap surface_of w), z.0, w))
        | inr z ↦ inl (ap kind_of z)
      ]

  not_known : (j x : ℕ) → surface_of (kind_in os j) ≡ Some x → x ≡ s → ⊥
  not_known j x e z = none-some j (sym (sym (a.known j x e) ∙ (ap (object_in t) z ∙ alone)))

  known_now : (j x : ℕ) → surface_of (kind_in (set os k (Some made)) j) ≡ Some x → object_in t₁ x ≡ Some j
  known_now j x e =
      elim (made_kinds j x e) [
        | inl w ↦ (let was = ap surface_of (sym w) ∙ e in
            elim (cases_eq x s) [ inl z ↦ absurd (not_known j x was z) | inr n ↦ ap (λ (v : Surface). v.object) (other x n) ∙ a.known j x was ])
        | inr w ↦ subst (λ y. object_in t₁ y ≡ Some j) (sym w.0) (child_object ∙ ap Some (sym w.1))
      ]

  inert_now : (j x : ℕ) → kind_in (set os k (Some made)) j ≡ InertSubsurface (Some x) → parent_in t₁ x ≡ None
  inert_now j x e =
      elim (made_kinds j x (ap surface_of e)) [
        | inl w ↦ (let was = sym w ∙ e in
            elim (cases_eq x s) [ inl z ↦ absurd (not_known j x (ap surface_of was) z) | inr n ↦ ap (λ (v : Surface). v.parent) (other x n) ∙ a.inert j x was ])
        | inr w ↦ absurd (not_inert s (Some x) (sym w.2 ∙ e))
      ]

  linked_now : (x y : ℕ) → parent_in t₁ x ≡ Some y → object_in t₁ x ≡ None → ⊥
  linked_now x y e n =
      elim (cases_eq x s) [
        | inl z ↦ none-some k (sym (sym child_object ∙ subst (λ v. object_in t₁ v ≡ None) z n))
        | inr z ↦ a.linked x y (sym (ap (λ (v : Surface). v.parent) (other x z)) ∙ e) (sym (ap (λ (v : Surface). v.object) (other x z)) ∙ n)
      ]

  tree_child : Tree t₁ (set os k (Some made))
  unfolding t₁
  tree_child =
      record {
        orders = record {
          places = length-set t s (option_map (child_of k q) (get_or t s None)) ∙ a.orders.places;
          forest = adopted t t₁ s q a.orders.forest (length-set t s (option_map (child_of k q) (get_or t s None))) there (λ x n. ap (λ (v : Surface). v.parent) (other x n)) (λ x e. same_Some x q (sym e ∙ child_parent)) apart;
          pending = λ x c m. child_now x c (a.orders.pending x c (subst (λ (ys : List ℕ). Member c ys) (adopts x).pending m));
          current = λ x c m. child_now x c (a.orders.current x c (subst (λ (ys : List ℕ). Member c ys) (adopts x).current m));
          once = λ x. subst Once (sym (adopts x).pending) (a.orders.once x);
        };
        linked = linked_now;
        inert = inert_now;
        known = known_now;
      }

  not_there : Member s (pending_in t₁ q) → ⊥
  not_there m =
      elim (a.orders.pending q s (subst (λ (ys : List ℕ). Member s ys) (adopts q).pending m)) [
        | inl z ↦ apart 0 (subst (λ y. Climb t 0 q y) (sym z) (stay q))
        | inr z ↦ no_parent q z
      ]

  on_top : (c : ℕ) → Member c (pending_in t₁ q ++ s ∷ []) → (c ≡ q) ⊎ (parent_in t₁ c ≡ Some q)
  on_top c m =
      elim (added_member (pending_in t₁ q) s c m) [
        | inl z ↦ tree_child.orders.pending q c z
        | inr z ↦ inr (subst (λ y. parent_in t₁ y ≡ Some q) (sym z) child_parent)
      ]

  pub tree_adopted : let u = with_child k s q t in Tree (changed q (reordering (λ ys. ys ++ s ∷ [])) u) (set os k (Some (subsurface_object client id s)))
  unfolding t₁ made
  tree_adopted = tree_reordered t₁ (set os k (Some made)) q (λ ys. ys ++ s ∷ []) on_top (once_added (pending_in t₁ q) s (tree_child.orders.once q) not_there) tree_child
