-- A composer and its frame memory after an act.
use Rattle.std.specs.Prelude.{◌≡◌, ℕ, Bool, true, false, cond, not, ◌&&◌, ◌||◌, List, length, Ok}
use Rattle.model.specs.declared.element.Element.{Element}
use Rattle.model.specs.declared.size.Size.{Size}
use Rattle.model.specs.Output.{Answer, accepted, output_fault, on_answer, show_answer, showable, then}
use Rattle.model.specs.Scene.{picture}
use Rattle.composer.specs.declared.composer.Composer.{Composer}
use Rattle.raster.specs.Frame.{fits, extent, blackened, painted}
use Rattle.raster.specs.Raster.{at, raster}
use Rattle.present.specs.Showing.{Glass, Act, switched_off, switched_on, showed}

abbrev pub composer_size : Composer → Size
composer_size c = extent c.size (length c.frame.now)

-- the frame memory, whatever the pixel memory holds
abbrev pub composer_glass : Composer → Glass
composer_glass c _ x y = at c.size.width c.frame.now x y

-- whether a dark composer is lit by switching it on
abbrev pub lights : Composer → Bool
lights c = accepted (on_answer (composer_size c)) && not c.lit

-- the frame memory: black when a dark composer is lit, the picture when a scene is shown, and otherwise as it was
abbrev pub frame_after : Composer → Act → List ℕ
frame_after c switched_off = c.frame.now
frame_after c switched_on = cond (lights c) (blackened c.frame.now) c.frame.now
frame_after c (showed scene m) =
    cond (accepted (show_answer c.lit scene (length m))) (painted c.size c.frame.now scene m) c.frame.now

abbrev pub lit_after : Composer → Act → Bool
lit_after c switched_off = false
lit_after c switched_on = accepted (on_answer (composer_size c)) || c.lit
lit_after c (showed scene m) = c.lit

-- d is the composer c after an act, over the same lent frame memory
pub record ComposerLeft (c : Composer) (act : Act) (d : Composer) : Type 0 where
  pub lender : d.frame.ghost_name ≡ c.frame.ghost_name
  pub size : d.size ≡ c.size
  pub frame : d.frame.now ≡ frame_after c act
  pub lit : d.lit ≡ lit_after c act

-- what is answered where a composer of a size over a frame memory of n pixels is lit and is to show a scene with a pixel memory of k pixels
abbrev pub compose_answer : Size → ℕ → List Element → ℕ → Answer
compose_answer size n scene k = then (cond (fits size n) (Ok tt) (output_fault 19)) (show_answer true scene k)

-- what the frame memory holds then
abbrev pub composed : Size → List ℕ → List Element → List ℕ → List ℕ
composed size frame scene m =
    cond (fits size (length frame)) (cond (showable scene (length m)) (raster size (picture scene m)) (blackened frame)) frame
