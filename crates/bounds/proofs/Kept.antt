-- A core that is kept sound, and the events of a call.
use Rattle.std.proofs.Common.{ℕ, ◌≤◌, List, length, sym, subst, arith, Option}
use Rattle.rules.specs.declared.object.Object.{Object}
use Rattle.rules.specs.declared.buffer.Buffer.{Buffer}
use Rattle.rules.specs.State.{Model, most}
use Rattle.rules.specs.Run.{start}
use Rattle.bounds.specs.Sound.{Sound, Tree, Spans, Roots}
use Rattle.bounds.proofs.Tables.{sum_ones}
use Rattle.bounds.proofs.Steps.{Plain, cached_most, cache_one, cached_in, Keeps}
use Rattle.bounds.proofs.Trees.{tree_alike}

-- what is shown of each accepted call
pub record Fine (r : Plain) : Type 0 where
  pub sound : Sound r.model
  pub events : length r.events ≤ 160

sound_keeps : (n : ℕ) (r t : Plain) → Sound r.model → Keeps n r t → Sound t.model
sound_keeps n r t a k =
    record {
      tree = subst (λ (os : List (Option Object)). Tree t.model.surfaces os) (sym k.objects) (tree_alike r.model.surfaces t.model.surfaces r.model.objects k.places k.surfaces a.tree);
      spans = subst (λ (bs : List (Option Buffer)). Spans t.model.size bs) (sym k.buffers) (subst (λ z. Spans z r.model.buffers) (sym k.size) a.spans);
      glass = omega (arith, k.glass, a.glass);
      roots = subst Roots (sym k.roots) a.roots;
      callbacks = omega (arith, k.callbacks, a.callbacks);
    }

cached_few : (m : Model) → Sound m → cached_in m.surfaces ≤ most
cached_few m a = omega (arith, sum_ones cache_one (λ s. cached_most s.cached) m.surfaces, a.tree.orders.places)

-- a call that leaves the tree
pub fine_keeps : (n : ℕ) (m : Model) (t : Plain) → Sound m → n ≤ 1 → Keeps n (start m) t → Fine t
fine_keeps n m t a l k = record { sound = sound_keeps n (start m) t a k; events = omega (arith, k.spends, cached_few m a) }

pub unchanged_fine : (m : Model) → Sound m → Fine (start m)
unchanged_fine m a = record { sound = a; events = omega arith }
