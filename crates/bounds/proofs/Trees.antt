-- What keeps the tree of surfaces and its links.
use Rattle.std.proofs.Common.{◌≡◌, ℕ, ◌≢◌, ◌⊎◌, List, length, Some, None, Option, sym, ◌∙◌, subst, inl, inr, ap}
use Rattle.std.proofs.lemmas.Bool.{cases_eq}
use Rattle.std.proofs.lemmas.Option.{same_Some, none-some}
use Rattle.rules.specs.declared.object.Object.{Object}
use Rattle.rules.specs.declared.object.ObjectKind.TheVariants.{InertSubsurface}
use Rattle.rules.specs.State.{Model, surface_of, Surface, no_surface}
use Rattle.bounds.specs.Forest.{parent_in}
use Rattle.bounds.specs.Member.{Member, Once}
use Rattle.bounds.specs.Reached.{SameOrders}
use Rattle.bounds.specs.Sound.{Orders, Tree, pending_in, current_in, object_in, kind_in}
use Rattle.bounds.proofs.Forests.{pruned}
use Rattle.bounds.proofs.Steps.{LinkedAlike}
use Rattle.rules.specs.Table.{record_at}

abbrev pub id_in : List (Option Surface) → ℕ → ℕ
id_in t p = (record_at no_surface t p).id

-- parents and pending orders that stay, where a pending order may have become current
pub orders_stay : (t u : List (Option Surface)) → length u ≡ length t → ((q : ℕ) → parent_in u q ≡ parent_in t q) → ((q : ℕ) → pending_in u q ≡ pending_in t q)
    → ((q : ℕ) → (current_in u q ≡ current_in t q) ⊎ (current_in u q ≡ pending_in t q)) → Orders t → Orders u
orders_stay t u e parents pending current a =
    record {
      places = e ∙ a.places;
      forest = pruned t u a.forest e (λ p. inl (parents p));
      pending = λ q c k. elim (a.pending q c (subst (λ (xs : List ℕ). Member c xs) (pending q) k)) [ inl z ↦ inl z | inr z ↦ inr (parents c ∙ z) ];
      current = λ q c k.
          let was : (c ≡ q) ⊎ (parent_in t c ≡ Some q) =
          elim (current q) [
            | inl z ↦ a.current q c (subst (λ (xs : List ℕ). Member c xs) z k)
            | inr z ↦ a.pending q c (subst (λ (xs : List ℕ). Member c xs) z k)
          ] in
          elim was [ inl z ↦ inl z | inr z ↦ inr (parents c ∙ z) ];
      once = λ q. subst Once (sym (pending q)) (a.once q);
    }

pub orders_same : (m n : Model) → SameOrders m n → Orders m.surfaces → Orders n.surfaces
orders_same m n h a = orders_stay m.surfaces n.surfaces h.places h.parents h.pending (λ q. inl (h.current q)) a

pub orders_alike : (t u : List (Option Surface)) → length u ≡ length t → ((q : ℕ) → LinkedAlike (record_at no_surface t q) (record_at no_surface u q)) → Orders t → Orders u
orders_alike t u e h a = orders_stay t u e (λ q. (h q).parent) (λ q. (h q).pending) (λ q. (h q).current) a

pub tree_alike : (t u : List (Option Surface)) (os : List (Option Object)) → length u ≡ length t → ((q : ℕ) → LinkedAlike (record_at no_surface t q) (record_at no_surface u q)) → Tree t os → Tree u os
tree_alike t u os e h a =
    record {
      orders = orders_alike t u e h a.orders;
      linked = λ p q k n. a.linked p q (sym (h p).parent ∙ k) (sym (h p).object ∙ n);
      inert = λ k p z. (h p).parent ∙ a.inert k p z;
      known = λ k p z. (h p).object ∙ a.known k p z;
    }

-- the surface p has lost its parent: it left the parent's orders, and its sub-surface object is inert
pub record Cut (p : ℕ) (t u : List (Option Surface)) (os ps : List (Option Object)) : Type 0 where
  pub places : length u ≡ length t
  pub id : (x : ℕ) → id_in u x ≡ id_in t x
  pub object : (x : ℕ) → object_in u x ≡ object_in t x
  pub parent : (x : ℕ) → x ≢ p → parent_in u x ≡ parent_in t x
  pub gone : parent_in u p ≡ None
  pub pending : (x c : ℕ) → Member c (pending_in u x) → Member c (pending_in t x) × (parent_in t p ≡ Some x → c ≢ p)
  pub current : (x c : ℕ) → Member c (current_in u x) → Member c (current_in t x) × (parent_in t p ≡ Some x → c ≢ p)
  pub once : (x : ℕ) → Once (pending_in t x) → Once (pending_in u x)
  pub kinds : (k : ℕ) → (kind_in ps k ≡ kind_in os k) ⊎ ((kind_in ps k ≡ InertSubsurface (Some p)) × (object_in t p ≡ Some k))

module _ (p : ℕ) (t u : List (Option Surface)) (os ps : List (Option Object)) (h : Cut p t u os ps) (a : Tree t os) where
  -- parents stay, but for p
  parents_cut : (x : ℕ) → (parent_in u x ≡ parent_in t x) ⊎ (parent_in u x ≡ None)
  parents_cut x = elim (cases_eq x p) [ inl e ↦ inr (subst (λ y. parent_in u y ≡ None) (sym e) h.gone) | inr n ↦ inl (h.parent x n) ]

  parent_before : (x q : ℕ) → parent_in u x ≡ Some q → parent_in t x ≡ Some q
  parent_before x q e = elim (parents_cut x) [ inl k ↦ sym k ∙ e | inr k ↦ absurd (none-some q (sym (sym e ∙ k))) ]

  child_cut : (q c : ℕ) → (parent_in t p ≡ Some q → c ≢ p) → (c ≡ q) ⊎ (parent_in t c ≡ Some q) → (c ≡ q) ⊎ (parent_in u c ≡ Some q)
  child_cut q c n (inl e) = inl e
  child_cut q c n (inr e) =
      elim (cases_eq c p) [ inl k ↦ absurd (n (subst (λ y. parent_in t y ≡ Some q) k e) k) | inr k ↦ inr (h.parent c k ∙ e) ]

  known_cut : (k x : ℕ) → surface_of (kind_in ps k) ≡ Some x → object_in t x ≡ Some k
  known_cut k x e =
      elim (h.kinds k) [
        | inl z ↦ a.known k x (ap surface_of (sym z) ∙ e)
        | inr z ↦ subst (λ v. object_in t v ≡ Some k) (same_Some p x (ap surface_of (sym z.0) ∙ e)) z.1
      ]

  inert_cut : (k x : ℕ) → kind_in ps k ≡ InertSubsurface (Some x) → parent_in u x ≡ None
  inert_cut k x e =
      elim (h.kinds k) [
        | inl z ↦ elim (parents_cut x) [ inl y ↦ y ∙ a.inert k x (sym z ∙ e) | inr y ↦ y ]
        | inr z ↦ subst (λ v. parent_in u v ≡ None) (same_Some p x (ap surface_of (sym z.0 ∙ e))) h.gone
      ]

  pub tree_cut : Tree u ps
  tree_cut =
      record {
        orders = record {
          places = h.places ∙ a.orders.places;
          forest = pruned t u a.orders.forest h.places parents_cut;
          pending = λ q c m. child_cut q c (h.pending q c m).1 (a.orders.pending q c (h.pending q c m).0);
          current = λ q c m. child_cut q c (h.current q c m).1 (a.orders.current q c (h.current q c m).0);
          once = λ q. h.once q (a.orders.once q);
        };
        linked = λ x q e n. a.linked x q (parent_before x q e) (sym (h.object x) ∙ n);
        inert = inert_cut;
        known = λ k x e. h.object x ∙ known_cut k x e;
      }
