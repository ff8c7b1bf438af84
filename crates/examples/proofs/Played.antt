-- The runs, computed.
use Rattle.std.proofs.Common.{refl}
use Rattle.model.specs.Pixel.{blended_by}
use Rattle.model.specs.Word.{words, int}
use Rattle.rules.specs.Hold.{end_waiting}
use Rattle.rules.specs.Callback.{end_callbacks}
use Rattle.rules.specs.Tree.{held_back_in, descends_in}
use Rattle.rules.specs.Apply.{apply_self, apply_in, commit, desync}
use Rattle.rules.specs.Unlink.{unlink, unlink_children, destroy}
use Rattle.rules.specs.Walk.{walk_in}
use Rattle.examples.specs.Examples.{Examples}

pub examples : Examples
unfolding blended_by words int end_waiting end_callbacks held_back_in descends_in apply_self apply_in commit desync unlink unlink_children destroy walk_in
examples =
    record {
      over_white_dark = refl;
      over_white_red = refl;
      farthest = refl;
      too_far = refl;
      held_back_told = refl;
      held_back_before = refl;
      held_back_after = refl;
      desync_told = refl;
      desync_after = refl;
      never_shown = refl;
      once_shown = refl;
      shown_again = refl;
      still_busy = refl;
      answered_once = refl;
    }
