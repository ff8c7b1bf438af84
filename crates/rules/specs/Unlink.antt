-- Unlink, and the end of a surface.
use Rattle.std.specs.Prelude.{ℕ, Some, None, fold, Option, nat_eq}
use Rattle.rules.specs.declared.attach.Attach.TheVariants.{Nothing}
use Rattle.rules.specs.declared.object.Object.{Object}
use Rattle.rules.specs.declared.object.ObjectKind.TheVariants.{InertSubsurface}
use Rattle.rules.specs.declared.stage.Stage.TheVariants.{Cached}
use Rattle.rules.specs.State.{Model}
use Rattle.rules.specs.Setters.{with_parent, with_cached, with_order, with_pending_order, with_roots, free_surface, edit_object}
use Rattle.rules.specs.Run.{Grow, Run, in_model, at, edit, send, delete_id}
use Rattle.rules.specs.Hold.{end_cached, end_current}
use Rattle.rules.specs.Callback.{end_callbacks, stands}
use Rattle.rules.specs.Table.{without}

-- a sub-surface object made inert, and the surface that it still blocks, if that lives
abbrev pub as_inert : Option ℕ → Object → Object
as_inert surface o = record { client = o.client; id = o.id; kind = InertSubsurface surface }

-- the sub-surface object at k, if there is one, becomes inert
abbrev pub made_inert : Option ℕ → Option ℕ → Model → Model
made_inert None surface m = m
made_inert (Some k) surface m = edit_object k (as_inert surface) m

module _ {E : Type 0} (g : Grow E) where
  -- p leaves both orders of q
  abbrev pub leave : ℕ → ℕ → Run E → Run E
  leave q p r =
      edit q (λ s. with_pending_order (without p s.pending.order) (with_order (without p s.current.order) s)) r

  abbrev pub unlink_from : Option ℕ → ℕ → Run E → Run E
  unlink_from None p r = r
  unlink_from (Some q) p r =
      let inert = in_model (made_inert (at r p).object (Some p)) (leave q p r) in
      let ended = end_cached g (at r p).cached (edit p (λ s. with_parent None (with_cached Nothing s)) inert) in
      end_callbacks g (stands p Cached) ended

  -- the surface at p leaves its parent, if it has one
  unfoldable pub unlink : ℕ → Run E → Run E
  unlink p r = unlink_from (at r p).parent p r

  -- its children, in the pending order, bottom first
  unfoldable pub unlink_children : ℕ → Run E → Run E
  unlink_children p r = fold (λ t c. unlink c t) r (without p (at r p).pending.order)

  -- the record of a surface goes, and its object ends
  abbrev pub end_surface : ℕ → Run E → Run E
  end_surface p r =
      let s = at r p in
      send g (delete_id s.client s.id) (in_model (λ m. free_surface p (made_inert s.object None m)) r)

  -- wl_surface.destroy
  unfoldable pub destroy : ℕ → Run E → Run E
  destroy p r =
      let t = unlink p (unlink_children p r) in
      let u = in_model (λ m. with_roots (without p m.roots) m) t in
      let v = end_current g (at u p).current.hold (at u p).current.mark u in
      end_surface p (end_callbacks g (λ k. nat_eq k.surface p) v)
