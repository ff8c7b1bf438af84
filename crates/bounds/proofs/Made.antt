-- Requests that make a surface, adopt one or place one in an order.
use Rattle.std.proofs.Common.{◌≡◌, ℕ, Bool, true, false, cond, not, ◌||◌, eqb, ◌⊎◌, List, [], ◌∷◌, ◌++◌, get_or, is_some, Some, None, Option, sym, refl, ◌∙◌, subst, inl, inr, arith, is_none, ap, unwrap_or}
use Rattle.std.proofs.lemmas.Bool.{not-true, or_parts, true≢false}
use Rattle.rules.specs.State.{Model, no_surface, surface_at, object_place}
use Rattle.rules.specs.Run.{plain, start, edit, in_model}
use Rattle.rules.specs.Setters.{with_pending_order, put_surface}
use Rattle.rules.specs.Tree.{descends}
use Rattle.rules.specs.Carry.{new_surface, is_root, spoken_for, beside, inserted, siblings, adopt}
use Rattle.bounds.specs.Forest.{parent_in}
use Rattle.bounds.specs.Member.{Member, Once}
use Rattle.bounds.specs.Sound.{Sound, object_in}
use Rattle.bounds.proofs.Tables.{put_sum, changed_sum, found_at, without_member, joined_member}
use Rattle.bounds.proofs.Pigeons.{once_kept}
use Rattle.bounds.proofs.Counted.{inserted_once}
use Rattle.bounds.proofs.Forests.{apart}
use Rattle.bounds.proofs.Steps.{mark_one}
use Rattle.bounds.proofs.Links.{reordering, tree_replaced, tree_adopted, tree_reordered, with_child, child_of}
use Rattle.bounds.proofs.Stations.{FoundSurface}
use Rattle.bounds.proofs.Kept.{Fine}
use Rattle.rules.specs.Table.{free_place}
use Rattle.std.proofs.lemmas.Option.{none-some}

none_some : {A : Type 0} (o : Option A) → is_some o ≡ false → o ≡ None
none_some None e = refl
none_some (Some q) e = absurd (true≢false e)

none_of : {A : Type 0} (o : Option A) → is_none o ≡ true → o ≡ None
none_of o e = none_some o (not-true (is_some o) e)

-- create_surface, in a free place
pub created : (m : Model) (client id p : ℕ) → Sound m → free_place m.surfaces ≡ Some p → Fine (in_model (put_surface p (new_surface client id p)) (start m))
created m client id p a e =
    let t = m.surfaces in
    let new = new_surface client id p in
    let r = found_at is_none None 0 t p e in
    let here : r.0 ≡ p = let w = r.1 in omega arith in
    let free : get_or t p None ≡ None = subst (λ k. get_or t k None ≡ None) here (none_of (get_or t r.0 None) r.3) in
    let none : object_in t p ≡ None = ap (λ o. (unwrap_or o no_surface).object) free in
    let alone : parent_in t p ≡ None = ap (λ o. (unwrap_or o no_surface).parent) free in
    let own : (c : ℕ) → Member c (p ∷ []) → c ≡ p = λ c k. elim k [ inl z ↦ z | inr z ↦ absurd z ] in
    record {
      sound = record {
        tree = tree_replaced t m.objects m.objects p (Some new) a.tree alone refl refl (tt, tt) own own (λ k x h. (refl, λ z. none-some k (sym (sym z ∙ none))));
        spans = a.spans;
        glass = omega (arith, put_sum no_surface mark_one refl t p (Some new), a.glass);
        roots = a.roots;
        callbacks = a.callbacks;
      };
      events = omega arith;
    }

-- get_subsurface
pub adopted_fine : (m : Model) (client id s q : ℕ) → Sound m → FoundSurface m s → FoundSurface m q → spoken_for (surface_at m s) ≡ false
    → (eqb q s || descends m q s) ≡ false → Fine (adopt plain client id s q (start m))
adopted_fine m client id s q a fs fq e d =
    let t = m.surfaces in
    let k = object_place client id in
    let none : object_in t s ≡ None = none_some (object_in t s) (or_parts (is_root (surface_at m s).role) (is_some (object_in t s)) e).1 in
    let u = with_child k s q t in
    record {
      sound = record {
        tree = tree_adopted t m.objects k client id s q a.tree fs.it fs.there fq.within none (apart m a.tree.orders.forest a.tree.orders.places q s d);
        spans = a.spans;
        glass = omega (arith, changed_sum no_surface mark_one refl t s (child_of k q), changed_sum no_surface mark_one refl u q (reordering (λ ys. ys ++ s ∷ [])), a.glass);
        roots = a.roots;
        callbacks = a.callbacks;
      };
      events = omega arith;
    }

-- place_above and place_below
beside_member : (over : Bool) (c by p x : ℕ) → Member x (beside over c by p) → (x ≡ p) ⊎ (x ≡ c)
beside_member over c by p x = go over (eqb p by)
  where
    go : (o b : Bool) → Member x (cond b (cond o (p ∷ c ∷ []) (c ∷ p ∷ [])) (p ∷ [])) → (x ≡ p) ⊎ (x ≡ c)
    go true true m = elim m [ inl z ↦ inl z | inr z ↦ elim z [ inl y ↦ inr y | inr y ↦ absurd y ] ]
    go true false m = elim m [ inl z ↦ inl z | inr z ↦ absurd z ]
    go false true m = elim m [ inl z ↦ inr z | inr z ↦ elim z [ inl y ↦ inl y | inr y ↦ absurd y ] ]
    go false false m = elim m [ inl z ↦ inl z | inr z ↦ absurd z ]

pub inserted_member : (over : Bool) (c by : ℕ) (ps : List ℕ) (x : ℕ) → Member x (inserted over c by ps) → Member x ps ⊎ (x ≡ c)
inserted_member over c by [] x m = absurd m
inserted_member over c by (p ∷ ps) x m =
    elim (joined_member (beside over c by p) (inserted over c by ps) x m) [
      | inl z ↦ elim (beside_member over c by p x z) [ inl y ↦ inl (inl y) | inr y ↦ inr y ]
      | inr z ↦ elim (inserted_member over c by ps x z) [ inl y ↦ inl (inr y) | inr y ↦ inr y ]
    ]

pub placed_fine : (m : Model) (over : Bool) (q c by : ℕ) → Sound m → (surface_at m c).parent ≡ Some q
    → Fine (edit q (λ u. with_pending_order (inserted over c by (siblings m q c)) u) (start m))
placed_fine m over q c by a e =
    let t = m.surfaces in
    let xs = inserted over c by (siblings m q c) in
    let child : (x : ℕ) → Member x xs → (x ≡ q) ⊎ (parent_in t x ≡ Some q) =
    λ x k. elim (inserted_member over c by (siblings m q c) x k) [
      | inl y ↦ a.tree.orders.pending q x (without_member c (surface_at m q).pending.order x y).0
      | inr y ↦ inr (subst (λ v. parent_in t v ≡ Some q) (sym y) e)
    ] in
    let there = (surface_at m q).pending.order in
    let once : Once xs =
    inserted_once over c by (siblings m q c) (once_kept (λ x. not (eqb x c)) there (a.tree.orders.once q)) (λ k. (without_member c there c k).1 refl) in
    record {
      sound = record {
        tree = tree_reordered t m.objects q (λ _. xs) child once a.tree;
        spans = a.spans;
        glass = omega (arith, changed_sum no_surface mark_one refl t q (with_pending_order xs), a.glass);
        roots = a.roots;
        callbacks = a.callbacks;
      };
      events = omega arith;
    }
