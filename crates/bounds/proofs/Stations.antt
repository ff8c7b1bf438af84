-- Chains of checks: what holds of a result that passed them.
use Rattle.std.proofs.Common.{◌≡◌, ℕ, ◌<◌, Bool, true, false, length, get_or, Some, None, Ok, Err, Option, Result, true≢false, sym, refl, subst, arith, ok_or, option_and_then, option_map}
use Rattle.list.specs.Place.{place}
use Rattle.model.specs.declared.fault.Fault.{Fault}
use Rattle.rules.specs.State.{Model, Surface}
use Rattle.rules.specs.Table.{some_and, place_with}
use Rattle.rules.specs.Station.{◌>>=◌, refuse_if}
use Rattle.rules.specs.Name.{object, surface, buffer, callback, bears, as_surface, the_surface}
use Rattle.bounds.proofs.Tables.{found_at}
use Rattle.std.specs.Option.{option_or}
use Rattle.model.specs.Fault.{fault}

-- what holds of an accepted result
abbrev pub Accepts : {B : Type 0} → (B → Type 0) → Result B Fault → Type 0
Accepts Q (Ok b) = Q b
Accepts Q (Err f) = Unit {0}

module _ {B : Type 0} (Q : B → Type 0) where
  pub then : {A : Type 0} (e : Result A Fault) (next : A → Result B Fault) → ((a : A) → e ≡ Ok a → Accepts Q (next a)) → Accepts Q (e >>= next)
  then (Ok a) next h = h a refl
  then (Err f) next h = tt

  pub then_unless : (bad : Bool) (f : Fault) (next : Unit {0} → Result B Fault) → (bad ≡ false → Accepts Q (next tt)) → Accepts Q (refuse_if bad f >>= next)
  then_unless true f next h = tt
  then_unless false f next h = h refl

  pub then_found : {A : Type 0} (o : Option A) (f : Fault) (next : A → Result B Fault) → ((a : A) → o ≡ Some a → Accepts Q (next a)) → Accepts Q (ok_or o f >>= next)
  then_found None f next h = tt
  then_found (Some a) f next h = h a refl

-- a surface by its name: its place in the table, and its record
pub record FoundSurface (m : Model) (p : ℕ) : Type 0 where
  pub within : p < length m.surfaces
  pub it : Surface
  pub there : get_or m.surfaces p None ≡ Some it

-- a test that something passes
passed : {A : Type 0} (test : A → Bool) (o : Option A) → some_and test o ≡ true → (a : A) × (o ≡ Some a)
passed test None e = absurd (true≢false (sym e))
passed test (Some a) e = (a, refl)

-- a name is that of a surface only if it was found among them
surface_found : (word : ℕ) (x y z w : Option ℕ) (p : ℕ)
    → ok_or (option_and_then as_surface (option_or (option_map object x) (option_or (option_map surface y) (option_or (option_map buffer z) (option_map callback w))))) (fault 9 4 word) ≡ Ok p
    → y ≡ Some p
surface_found word (Some k) y z w p e = cc
surface_found word None (Some a) z w p e = cc
surface_found word None None (Some a) w p e = cc
surface_found word None None None (Some a) p e = cc
surface_found word None None None None p e = cc

pub surface_named : (m : Model) (client word id p : ℕ) → the_surface m client word id ≡ Ok p → FoundSurface m p
surface_named m client word id p e =
    let x = place_with (λ o. bears client id o.client o.id) m.objects in
    let y = place_with (λ s. bears client id s.client s.id) m.surfaces in
    let z = place_with (λ b. some_and (bears client id b.client) b.id) m.buffers in
    let w = place (λ k. bears client id k.client k.id) m.callbacks in
    let test : Surface → Bool = λ s. bears client id s.client s.id in
    let r = found_at (some_and test) None 0 m.surfaces p (surface_found word x y z w p e) in
    let here : r.0 ≡ p = let w = r.1 in omega arith in
    let s = passed test (get_or m.surfaces r.0 None) r.3 in
    record {
      within = subst (λ k. k < length m.surfaces) here r.2;
      it = s.0;
      there = subst (λ k. get_or m.surfaces k None ≡ Some s.0) here s.1;
    }
