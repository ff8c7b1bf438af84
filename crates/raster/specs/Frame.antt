-- What a frame memory holds: pixels row by row, for an output of a size.
use Rattle.std.specs.Prelude.{ℕ, ◌*◌, Bool, cond, ◌&&◌, List, length, replicate, Some, None, Option, ◌==◌, nat_le, nat_lt}
use Rattle.model.specs.declared.element.Element.{Element}
use Rattle.model.specs.declared.size.Size.{Size}
use Rattle.model.specs.Buffer.{longest, all_sound}
use Rattle.model.specs.Pixel.{black}
use Rattle.model.specs.Scene.{picture}
use Rattle.raster.specs.Raster.{at, raster}

-- whether a side may be that long
abbrev pub side : ℕ → Bool
side n = nat_le 1 n && nat_le n longest

-- whether an output may have these sides
abbrev pub has_sides : Size → Bool
has_sides size = side size.width && side size.height

-- whether it may, and n pixels are as many as they ask for
abbrev pub fits : Size → ℕ → Bool
fits size n = has_sides size && n == size.width * size.height

-- how many pixels they ask for; none where no output may have them
abbrev pub frame_length : Size → ℕ
frame_length size = cond (has_sides size) (size.width * size.height) 0

-- the size of an output over n pixels
abbrev pub extent : Size → ℕ → Size
extent size n = cond (fits size n) size (record { width = 0; height = 0 })

abbrev pub pixel_at : Size → List ℕ → ℕ → ℕ → Option ℕ
pixel_at size frame x y =
    cond (fits size (length frame) && (nat_lt x size.width && nat_lt y size.height)) (Some (at size.width frame x y)) None

-- the pixels once they are cleared
abbrev pub blackened : List ℕ → List ℕ
blackened frame = replicate (length frame) black

-- the pixels once a scene is drawn with the pixel memory m, where both can be
abbrev pub painted : Size → List ℕ → List Element → List ℕ → List ℕ
painted size frame scene m =
    cond (fits size (length frame) && all_sound (length m) scene) (raster size (picture scene m)) frame
