-- The size of an output over a frame memory, and what stands in it.
use Rattle.std.proofs.Common.{◌≡◌, ℕ, ◌<◌, true, cond, List, length, Ok, refl, arith}
use Rattle.std.proofs.lemmas.Bool.Decides.{nat_tests}
use Rattle.std.proofs.lemmas.List.FromFn.{length-map-range_with_len}
use Rattle.model.specs.declared.element.Element.{Element}
use Rattle.model.specs.declared.size.Size.{Size}
use Rattle.model.specs.Buffer.{all_sound}
use Rattle.model.specs.Output.{output_fault, on_answer}
use Rattle.model.specs.Pixel.{black}
use Rattle.model.specs.Scene.{picture}
use Rattle.raster.specs.Frame.{has_sides, fits, frame_length, extent, blackened, painted}
use Rattle.raster.specs.Raster.{at}
use Rattle.raster.proofs.Rasters.{at_raster, at_replicate}

-- a frame memory of the length for its sides fits exactly if an output may have them
pub fits_length : (size : Size) → fits size (frame_length size) ≡ has_sides size
fits_length size = grind (arith, nat_tests)

module _ (size : Size) (n : ℕ) where
  pub extent_fits : fits size n ≡ true → extent size n ≡ size
  extent_fits t = rw t refl

  -- only a frame memory that fits has a pixel
  pub within_fits : (x : ℕ) → x < (extent size n).width → fits size n ≡ true
  within_fits x l = grind (arith, nat_tests)

  -- and its sides are then the ones that were asked for
  pub within_sides : (x y : ℕ) → x < (extent size n).width → y < (extent size n).height → (x < size.width) × (y < size.height)
  within_sides x y hx hy = grind (arith, nat_tests)

  -- an output over a frame memory is switched on exactly if that fits
  pub on_fits : on_answer (extent size n) ≡ cond (fits size n) (Ok tt) (output_fault 19)
  on_fits = grind (arith, nat_tests)

-- a scene that is drawn leaves the frame memory as long as it was
pub length_painted : (size : Size) (frame : List ℕ) (scene : List Element) (m : List ℕ) → length (painted size frame scene m) ≡ length frame
length_painted size frame scene m = grind (arith, nat_tests, length-map-range_with_len)

module _ (size : Size) (frame : List ℕ) (x y : ℕ) (hx : x < (extent size (length frame)).width) (hy : y < (extent size (length frame)).height) where
  pub at_blackened : at size.width (blackened frame) x y ≡ black
  at_blackened = grind (arith, nat_tests, at_replicate)

  pub at_painted : (scene : List Element) (m : List ℕ) → all_sound (length m) scene ≡ true → at size.width (painted size frame scene m) x y ≡ picture scene m x y
  at_painted scene m ok = grind (arith, nat_tests, at_raster)
