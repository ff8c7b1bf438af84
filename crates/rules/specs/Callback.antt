-- Callbacks: how they go from stage to stage, and how they end unanswered.
use Rattle.std.specs.Prelude.{ℕ, Bool, true, false, cond, not, ◌&&◌, map, fold, filter, ◌==◌}
use Rattle.rules.specs.declared.callback.Callback.{Callback}
use Rattle.rules.specs.declared.stage.Stage.{Stage}
use Rattle.rules.specs.declared.stage.Stage.TheVariants.{Pending, Cached, Current}
use Rattle.rules.specs.Setters.{with_callbacks}
use Rattle.rules.specs.Run.{Grow, Run, in_model, send, delete_id}

abbrev pub same_stage : Stage → Stage → Bool
same_stage Pending Pending = true
same_stage Cached Cached = true
same_stage Current Current = true
same_stage _ _ = false

-- whether a callback belongs to the surface at p and is at that stage
abbrev pub stands : ℕ → Stage → Callback → Bool
stands p stage k = k.surface == p && same_stage k.stage stage

abbrev pub moved : ℕ → Stage → Stage → Callback → Callback
moved p from to k =
    cond (stands p from k) (record { client = k.client; id = k.id; surface = k.surface; stage = to }) k

module _ {E : Type 0} where
  -- the callbacks of p at one stage go on to another
  abbrev pub advance : ℕ → Stage → Stage → Run E → Run E
  advance p from to r = in_model (λ m. with_callbacks (map (moved p from to) m.callbacks) m) r

  -- the callbacks that pass the test end unanswered, in the list's order
  unfoldable pub end_callbacks : Grow E → (Callback → Bool) → Run E → Run E
  end_callbacks g test r =
      in_model (λ m. with_callbacks (filter (λ k. not (test k)) m.callbacks) m)
      (fold (λ t k. send g (delete_id k.client k.id) t) r (filter test r.model.callbacks))
