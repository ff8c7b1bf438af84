-- What the rules say of some runs of calls, each from a new core.
use Rattle.std.specs.Prelude.{◌≡◌, true, List, [], ◌∷◌, ◌++◌}
use Rattle.model.specs.Pixel.{blended}
use Rattle.rules.specs.Call.{Call, after}
use Rattle.rules.specs.Hold.{busy}
use Rattle.rules.specs.Walk.{scene}
use Rattle.examples.specs.Calls.{create_surface, get_subsurface, ask_frame, commit, set_position, set_desync, make_buffer, root, switch_on, frame, show, new_core, told, quiet, refused, releases, answers, element}

-- a root 10 with buffer 4, and its child 11 by the sub-surface object 12; the parent has committed since
abbrev pub family : List Call
family =
    make_buffer 4 0 ∷ make_buffer 5 4 ∷ make_buffer 6 8 ∷ create_surface 10 ∷ create_surface 11 ∷ root 10 ∷ get_subsurface 12 11 10 ∷ show 10 4

-- the child commits buffers 5, then 6
abbrev pub both : List Call
both = show 11 5 ++ show 11 6

-- a root 10, and two buffers
abbrev pub alone : List Call
alone = make_buffer 5 4 ∷ make_buffer 6 8 ∷ create_surface 10 ∷ root 10 ∷ []

-- the strip 11 has asked for the callback 20 and committed, held back
abbrev pub strip : List Call
strip = family ++ switch_on ∷ ask_frame 11 20 ∷ show 11 5

pub record Examples : Type 0 where
  -- blends over white
  pub over_white_dark : blended 0x8040_0000 0xffff_ffff ≡ 0xffbf_7f7f
  pub over_white_red : blended 0x80ff_0000 0xffff_ffff ≡ 0xffff_7f7f
  -- position 16,384 is accepted, 16,385 is not
  pub farthest : told (after new_core family) (set_position 12 16384 0 ∷ []) ≡ (quiet ∷ [])
  pub too_far : told (after new_core family) (set_position 12 16385 0 ∷ []) ≡ (refused 10 ∷ [])
  -- a held-back child commits buffers 5, then 6: the second releases 5, the parent's commit brings 6 into the scene
  pub held_back_told : told (after new_core family) (both ++ commit 10 ∷ []) ≡ (quiet ∷ quiet ∷ quiet ∷ releases 5 ∷ quiet ∷ [])
  pub held_back_before : scene (after new_core (family ++ both)) ≡ (element 0 ∷ [])
  pub held_back_after : scene (after new_core (family ++ both ++ commit 10 ∷ [])) ≡ (element 0 ∷ element 8 ∷ [])
  -- set_desync instead brings 6 in
  pub desync_told : told (after new_core family) (both ++ set_desync 12 ∷ []) ≡ (quiet ∷ quiet ∷ quiet ∷ releases 5 ∷ quiet ∷ [])
  pub desync_after : scene (after new_core (family ++ both ++ set_desync 12 ∷ [])) ≡ (element 0 ∷ element 8 ∷ [])
  -- a commit that replaces a buffer never shown releases it then; once shown, the next successful frame does
  pub never_shown : told (after new_core alone) (show 10 5 ++ show 10 6) ≡ (quiet ∷ quiet ∷ quiet ∷ releases 5 ∷ [])
  pub once_shown : told (after new_core alone) (switch_on ∷ show 10 5 ++ frame 7 ∷ show 10 6 ++ frame 8 ∷ []) ≡ (quiet ∷ quiet ∷ quiet ∷ quiet ∷ quiet ∷ quiet ∷ releases 5 ∷ [])
  -- the shown buffer committed again: one release at the next frame, still busy
  pub shown_again : told (after new_core alone) (switch_on ∷ show 10 5 ++ frame 7 ∷ show 10 5 ++ frame 8 ∷ []) ≡ (quiet ∷ quiet ∷ quiet ∷ quiet ∷ quiet ∷ quiet ∷ releases 5 ∷ [])
  pub still_busy : busy (after new_core (alone ++ switch_on ∷ show 10 5 ++ frame 7 ∷ show 10 5 ++ frame 8 ∷ [])) 0 ≡ true
  -- a strip with a callback leaves synchronised mode between two frames: its callback is answered once
  pub answered_once : told (after new_core strip) (frame 7 ∷ set_desync 12 ∷ frame 8 ∷ frame 9 ∷ []) ≡ (quiet ∷ quiet ∷ answers 20 8 ∷ quiet ∷ [])
