-- Requests carried out: stations 5 to 7, and what is done.
use Rattle.std.specs.Prelude.{ℕ, Bool, true, false, cond, not, ◌&&◌, ◌||◌, eqb, List, [], ◌∷◌, length, map, ℤ, pos, negsuc, is_some, Some, None, Ok, Option, ok_or, option_map, flat_map, Result, ◌==◌, int_le, nat_le}
use Rattle.std.specs.List.{list_any}
use Rattle.std.specs.Ordering.{int_eq}
use Rattle.model.specs.declared.fault.Fault.{Fault}
use Rattle.model.specs.Fault.{fault}
use Rattle.rules.specs.declared.attach.Attach.TheVariants.{Null}
use Rattle.rules.specs.declared.buffer.Buffer.{Buffer}
use Rattle.rules.specs.declared.object.ObjectKind.TheVariants.{Subsurface}
use Rattle.rules.specs.declared.role.Role.{Role}
use Rattle.rules.specs.declared.role.Role.TheVariants.{Root, Sub}
use Rattle.rules.specs.declared.stage.Stage.TheVariants.{Pending}
use Rattle.rules.specs.State.{Model, Surface, bare_surface, surface_of, surface_at, buffer_at, object_at, object_place}
use Rattle.rules.specs.Setters.{with_role, with_parent, with_object, with_sync, with_attach, with_pending_position, with_pending_order, with_surfaces, with_callbacks, put_surface, edit_buffer, put_object, free_object}
use Rattle.rules.specs.Run.{Grow, Run, in_model, at, edit, send, send_living, delete_id}
use Rattle.rules.specs.Hold.{held, is_of}
use Rattle.rules.specs.Apply.{commit, desync}
use Rattle.rules.specs.Unlink.{unlink, destroy}
use Rattle.rules.specs.Table.{free_place, without}
use Rattle.rules.specs.Tree.{descends}
use Rattle.rules.specs.Station.{◌>>=◌, refuse_if}
use Rattle.rules.specs.Ask.{Found, create_surface, get_subsurface, destroy_surface, attach, damage, ask_frame, commit_surface, destroy_subsurface, set_position, place_beside, set_sync, set_desync, destroy_buffer, linked}

-- a surface at place p that was just made, alone in its orders
abbrev pub new_surface : ℕ → ℕ → ℕ → Surface
new_surface client id p = bare_surface client id (p ∷ [])

abbrev pub is_root : Option Role → Bool
is_root (Some Root) = true
is_root _ = false

-- station 6, number 11: a root, or a surface that has a sub-surface object
abbrev pub spoken_for : Surface → Bool
spoken_for s = is_root s.role || is_some s.object

-- station 7: 15 children, and the parent itself, are in the order
abbrev pub crowded : Model → ℕ → Bool
crowded m q = nat_le 16 (length (surface_at m q).pending.order)

-- station 7: no room for another callback
abbrev pub full_callbacks : Model → Bool
full_callbacks m = nat_le 64 (length m.callbacks)

-- positions are from -16,384 to 16,384
abbrev pub in_range : ℤ → Bool
in_range v = int_le (negsuc 16383) v && int_le v (pos 16384)

-- the place c next to the place by, in an order that does not have c
abbrev pub beside : Bool → ℕ → ℕ → ℕ → List ℕ
beside over c by p = cond (p == by) (cond over (p ∷ c ∷ []) (c ∷ p ∷ [])) (p ∷ [])

abbrev pub inserted : Bool → ℕ → ℕ → List ℕ → List ℕ
inserted over c by ps = flat_map (beside over c by) ps

-- the pending order of q without its child c
abbrev pub siblings : Model → ℕ → ℕ → List ℕ
siblings m q c = without c (surface_at m q).pending.order

-- a pending attach of buffer b becomes null
abbrev pub detached : ℕ → Surface → Surface
detached b s = cond (is_of b (held s.pending.attach)) (with_attach Null s) s

-- a buffer record whose object has ended
abbrev pub nameless : Buffer → Buffer
nameless f =
    record { client = f.client; id = None; first = f.first; width = f.width; height = f.height; stride = f.stride; format = f.format }

module _ {E : Type 0} (g : Grow E) where
  -- the surface s becomes a child of q, by the sub-surface object id
  abbrev pub adopt : ℕ → ℕ → ℕ → ℕ → Run E → Run E
  adopt client id s q r =
      let k = object_place client id in
      let known = in_model (put_object k (record { client = client; id = id; kind = Subsurface s })) r in
      let child = edit s (λ u. with_pending_position (pos 0) (pos 0) (with_sync true (with_object (Some k) (with_parent (Some q) (with_role (Some Sub) u))))) known in
      edit q (λ u. with_pending_order (g.ordered u.pending.order s) u) child

  abbrev pub place_in : Option ℕ → Bool → ℕ → ℕ → Run E → Result (Run E) Fault
  place_in None over c by r = Ok r
  place_in (Some q) over c by r =
      refuse_if (not (list_any (eqb by) (siblings r.model q c))) (fault 13 6 2) >>= λ _.
      Ok (edit q (λ u. with_pending_order (inserted over c by (siblings r.model q c)) u) r)

  -- what has no effect on an inert sub-surface object
  abbrev pub unless_inert : Option ℕ → (ℕ → Result (Run E) Fault) → Run E → Result (Run E) Fault
  unless_inert None carry r = Ok r
  unless_inert (Some p) carry r = carry p

  abbrev pub unlink_linked : Option ℕ → Run E → Run E
  unlink_linked None r = r
  unlink_linked (Some p) r = unlink g p r

  -- the surface, if it lives, may get another sub-surface object
  abbrev pub forget_object : Option ℕ → Run E → Run E
  forget_object None r = r
  forget_object (Some p) r = edit p (with_object None) r

  -- the sub-surface object at k ends; it links p unless it is inert
  abbrev pub end_subsurface : ℕ → Option ℕ → Run E → Run E
  end_subsurface k p r =
      let o = object_at r.model k in
      send g (delete_id o.client o.id)
      (in_model (free_object k) (forget_object (surface_of o.kind) (unlink_linked p r)))

  abbrev pub end_buffer : ℕ → Run E → Run E
  end_buffer b r =
      let f = buffer_at r.model b in
      send_living g (delete_id f.client) f.id
      (in_model (λ m. edit_buffer b nameless (with_surfaces (map (option_map (detached b)) m.surfaces) m)) r)

  -- stations 5 to 7 of a request, and what it does
  abbrev pub carried : Found → Run E → Result (Run E) Fault
  carried (create_surface client id) r =
      ok_or (free_place r.model.surfaces) (fault 14 7 2) >>= λ p.
      Ok (in_model (put_surface p (new_surface client id p)) r)
  carried (get_subsurface client id s q) r =
      refuse_if (spoken_for (at r s)) (fault 11 6 3) >>= λ _.
      refuse_if (q == s || descends r.model q s) (fault 12 6 4) >>= λ _.
      refuse_if (crowded r.model q) (fault 14 7 2) >>= λ _.
      Ok (adopt client id s q r)
  carried (destroy_surface p) r = Ok (destroy g p r)
  carried (attach p a x y) r =
      refuse_if (not (int_eq x (pos 0))) (fault 10 5 3) >>= λ _.
      refuse_if (not (int_eq y (pos 0))) (fault 10 5 4) >>= λ _.
      Ok (edit p (with_attach a) r)
  carried damage r = Ok r
  carried (ask_frame client p id) r =
      refuse_if (full_callbacks r.model) (fault 14 7 2) >>= λ _.
      Ok (in_model (λ m. with_callbacks (g.asked m.callbacks (record { client = client; id = id; surface = p; stage = Pending })) m) r)
  carried (commit_surface p) r = Ok (commit g p r)
  carried (destroy_subsurface k) r = Ok (end_subsurface k (linked r.model k) r)
  carried (set_position o x y) r =
      refuse_if (not (in_range x)) (fault 10 5 2) >>= λ _.
      refuse_if (not (in_range y)) (fault 10 5 3) >>= λ _.
      unless_inert o (λ p. Ok (edit p (with_pending_position x y) r)) r
  carried (place_beside over o by) r = unless_inert o (λ p. place_in (at r p).parent over p by r) r
  carried (set_sync o) r = unless_inert o (λ p. Ok (edit p (with_sync true) r)) r
  carried (set_desync o) r = unless_inert o (λ p. Ok (desync g p r)) r
  carried (destroy_buffer b) r = Ok (end_buffer b r)
