-- A frame before and after pixels of it are drawn.
use Rattle.std.specs.Prelude.{◌≡◌, ℕ}
use Rattle.raster.specs.declared.draw.Frame.{Frame}
use Rattle.raster.specs.Raster.{Everywhere, at}

-- new is the frame old, in the same lent memory, once each pixel is what p gives for its column, its row and the pixel before
pub record Redrawn (p : ℕ → ℕ → ℕ → ℕ) (old new : Frame) : Type 0 where
  pub size : new.size ≡ old.size
  pub lender : new.pixels.ghost_name ≡ old.pixels.ghost_name
  pub pixels : Everywhere old.size (λ x y. at old.size.width new.pixels.now x y ≡ p x y (at old.size.width old.pixels.now x y))
