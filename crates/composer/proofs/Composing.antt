-- What a lender finds in its frame memory after a dark composer was to be lit and then to show a scene.
use Rattle.std.proofs.Common.{◌≡◌, ℕ, false, List, arith}
use Rattle.std.proofs.lemmas.Bool.Decides.{nat_tests}
use Rattle.std.proofs.lemmas.List.{length-replicate}
use Rattle.model.specs.declared.element.Element.{Element}
use Rattle.model.specs.Output.{accepted, on_answer}
use Rattle.composer.specs.declared.composer.Composer.{Composer}
use Rattle.composer.specs.Composer.{composer_size, ComposerLeft, composed}
use Rattle.present.specs.Showing.{LitAndShown}

-- whoever lights a dark composer and shows a scene on it leaves what `compose` leaves in the lent memory: the picture; black, where the
-- scene was refused; or all as it was, where the memory does not fit the size
pub composed_frame : (c d : Composer) (scene : List Element) (m : List ℕ) → c.lit ≡ false → LitAndShown ComposerLeft (accepted (on_answer (composer_size c))) c scene m d
    → (d.frame.now ≡ composed c.size c.frame.now scene m) × (d.frame.ghost_name ≡ c.frame.ghost_name)
composed_frame c d scene m dark left = grind (arith, nat_tests, length-replicate)
