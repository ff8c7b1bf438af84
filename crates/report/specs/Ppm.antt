-- A binary portable pixmap, P6.
use Rattle.std.specs.Prelude.{ℕ, List, [], ◌∷◌, ◌++◌, codes, decimal}
use Rattle.std.specs.List.{flat_map}
use Rattle.model.specs.declared.size.Size.{Size}
use Rattle.model.specs.Pixel.{red, green, blue}

-- the kind, the sides and the largest value of a channel
abbrev pub header : Size → List ℕ
header size = codes "P6\n" ++ decimal size.width ++ (32 ∷ decimal size.height) ++ codes "\n255\n"

-- the three bytes of a pixel
abbrev pub channels : ℕ → List ℕ
channels p = red p ∷ green p ∷ blue p ∷ []

abbrev pub ppm : Size → List ℕ → List ℕ
ppm size pixels = header size ++ flat_map channels pixels
