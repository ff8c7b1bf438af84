-- Commit and apply.
use Rattle.std.specs.Prelude.{fold, ℕ, zero, suc, Bool, true, false, cond, ◌||◌, None, ◌==◌}
use Rattle.rules.specs.declared.attach.Attach.{Attach}
use Rattle.rules.specs.declared.attach.Attach.TheVariants.{Nothing}
use Rattle.rules.specs.declared.stage.Stage.TheVariants.{Pending, Cached, Current}
use Rattle.rules.specs.Setters.{with_attach, with_cached, with_hold, with_mark, with_order, with_position, with_sync}
use Rattle.rules.specs.Run.{Grow, Run, at, edit}
use Rattle.rules.specs.Hold.{end_cached, end_current, held}
use Rattle.rules.specs.Callback.{advance}
use Rattle.rules.specs.Tree.{held_back}

module _ {E : Type 0} (g : Grow E) where
  -- a current hold ends, and the cached attach moves to the current state; a new hold has no mark
  abbrev pub replace : ℕ → Run E → Run E
  replace p r =
      edit p (λ s. with_cached Nothing (with_mark None (with_hold (held s.cached) s)))
      (end_current g (at r p).current.hold (at r p).current.mark r)

  -- apply 1: unless nothing is cached
  abbrev pub take_cached : Attach → ℕ → Run E → Run E
  take_cached Nothing p r = r
  take_cached _ p r = replace p r

  -- apply 3: the pending order becomes current
  abbrev pub restack : ℕ → Run E → Run E
  restack p r = edit p (λ s. with_order s.pending.order s) r

  -- apply 1 to 3: what a surface does itself
  unfoldable pub apply_self : ℕ → Run E → Run E
  apply_self p r = restack p (advance p Cached Current (take_cached (at r p).cached p r))

  -- a child's pending position becomes current
  abbrev pub settle : ℕ → Run E → Run E
  settle c r = edit c (λ s. with_position s.pending.x s.pending.y s) r

  -- apply 4, for one place c of the order of p; go applies a surface, down
  abbrev pub apply_place : (ℕ → Run E → Run E) → ℕ → Bool → Run E → ℕ → Run E
  apply_place go p down r c =
      cond (c == p) r (cond (down || (at r c).sync) (go c (settle c r)) (settle c r))

  -- apply in a tree that is not deeper than n
  unfoldable pub apply_in : ℕ → Bool → ℕ → Run E → Run E
  apply_in zero down p r = r
  apply_in (suc n) down p r =
      let t = apply_self p r in
      fold (apply_place (apply_in n true) p down) t (at t p).current.order

  -- applies p, unless it is held back
  abbrev pub apply_free : Bool → ℕ → Run E → Run E
  apply_free down p r = cond (held_back r.model p) r (apply_in 32 down p r)

  -- commit 1: a cached hold ends, and the pending attach moves to the cached state
  abbrev pub cache : ℕ → Run E → Run E
  cache p r =
      edit p (λ s. with_attach Nothing (with_cached s.pending.attach s)) (end_cached g (at r p).cached r)

  abbrev pub take_pending : Attach → ℕ → Run E → Run E
  take_pending Nothing p r = r
  take_pending _ p r = cache p r

  unfoldable pub commit : ℕ → Run E → Run E
  commit p r = apply_free false p (advance p Pending Cached (take_pending (at r p).pending.attach p r))

  -- set_desync: only on a synchronised surface
  unfoldable pub desync : ℕ → Run E → Run E
  desync p r = cond (at r p).sync (apply_free true p (edit p (with_sync false) r)) r
