-- Orders, roots and callbacks have room for one more where a request adds one.
use Rattle.std.proofs.Common.{◌≡◌, ℕ, ◌<◌, ◌≤◌, Bool, false, not, eqb, List, [], ◌∷◌, ◌++◌, length, Some, sym, refl, ap, subst, inl, inr, arith}
use Rattle.std.specs.List.{AllByRecursion}
use Rattle.std.proofs.lemmas.List.{length_push}
use Rattle.std.proofs.lemmas.Bool.{leb-false}
use Rattle.list.specs.Bounded.{pushed}
use Rattle.rules.specs.State.{Model, Surface, most, no_surface, surface_at}
use Rattle.rules.specs.Table.{without}
use Rattle.rules.specs.Carry.{inserted, siblings, crowded}
use Rattle.bounds.specs.Forest.{parent_in}
use Rattle.bounds.specs.Member.{Member, Once}
use Rattle.bounds.specs.Sound.{Sound, Roots, pending_in}
use Rattle.bounds.proofs.Tables.{changed_related, without_member}
use Rattle.bounds.proofs.Pigeons.{pigeons, once_kept}
use Rattle.bounds.proofs.Counted.{inserted_once}
use Rattle.bounds.proofs.Forests.{has_place}
use Rattle.bounds.proofs.Ruled.{raised}
use Rattle.bounds.proofs.Made.{inserted_member}
use Rattle.bounds.proofs.Links.{with_child, child_of}
use Rattle.bounds.proofs.Coded.{pushed_fits}

-- roots
pub root_fits : (p : ℕ) (ps : List ℕ) → p < most → Roots ps → pushed 32 (without p ps) p ≡ without p ps ++ p ∷ []
root_fits p ps h a =
    let r = raised p ps h a in
    pushed_fits 32 (without p ps) p (omega (arith, pigeons 32 (without p ps ++ p ∷ []) r.once r.places, length_push (without p ps) p))

-- the order of a parent that has fewer than 15 children
pub child_fits : (m : Model) (k s q : ℕ) → crowded m q ≡ false → let t = with_child k s q m.surfaces in pushed 32 (pending_in t q) s ≡ pending_in t q ++ s ∷ []
child_fits m k s q e =
    let t = m.surfaces in
    let same : pending_in (with_child k s q t) q ≡ pending_in t q =
    changed_related no_surface (λ (u v : Surface). v.pending.order ≡ u.pending.order) (λ u. refl) t s (child_of k q) refl q in
    pushed_fits 32 (pending_in (with_child k s q t) q) s (omega (arith, leb-false 16 (length (pending_in t q)) e, ap length same))

all_members : (P : ℕ → Type 0) (xs : List ℕ) → ((x : ℕ) → Member x xs → P x) → AllByRecursion P xs
all_members P [] h = tt
all_members P (x ∷ xs) h = (h x (inl refl), all_members P xs (λ y m. h y (inr m)))

-- the order into which a child is placed: the rules write it whole and not with `ordered`, so this is for code that holds it in 32 places
pub placed_fits : (m : Model) (over : Bool) (q c by : ℕ) → Sound m → (surface_at m c).parent ≡ Some q
    → length (inserted over c by (siblings m q c)) ≤ 32
placed_fits m over q c by a e =
    let t = m.surfaces in
    let ps = siblings m q c in
    let there = (surface_at m q).pending.order in
    let xs = inserted over c by ps in
    let long : length t ≡ 32 = a.tree.orders.places in
    let child : (x : ℕ) → parent_in t x ≡ Some q → x < 32 = λ x h. omega (arith, has_place t x q h, long) in
    let within : (x : ℕ) → Member x xs → x < 32 = λ x k.
    elim (inserted_member over c by ps x k) [
      | inl y ↦ elim (a.tree.orders.pending q x (without_member c there x y).0) [
        | inl w ↦ (let l : q < length t = a.tree.orders.forest.parents c q e in omega (arith, l, long, w))
        | inr w ↦ child x w
      ]
      | inr y ↦ subst (λ v. v < 32) (sym y) (child c e)
    ] in
    let once : Once xs = inserted_once over c by ps (once_kept (λ x. not (eqb x c)) there (a.tree.orders.once q)) (λ k. (without_member c there c k).1 refl) in
    pigeons 32 xs once (all_members (λ x. x < 32) xs within)
