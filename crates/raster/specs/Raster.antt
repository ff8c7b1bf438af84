-- Pictures as lists of pixels, row by row.
use Rattle.std.specs.Prelude.{◌≡◌, ℕ, ◌+◌, ◌*◌, ◌/◌, ◌%◌, ◌<◌, List, length, map, slice_index}
use Rattle.std.specs.List.{range_with_len}
use Rattle.model.specs.declared.size.Size.{Size}

-- the pixels are as many as a frame of that size has
abbrev pub IsFrame : Size → List ℕ → Type 0
IsFrame size pixels = length pixels ≡ size.width * size.height

-- the pixel in column x of row y, where the rows are w wide
abbrev pub at : ℕ → List ℕ → ℕ → ℕ → ℕ
at w pixels x y = slice_index pixels (y * w + x)

-- the list of the pixels of that size that f gives by column and row
abbrev pub raster : Size → (ℕ → ℕ → ℕ) → List ℕ
raster size f = map (λ k. f (k % size.width) (k / size.width)) (range_with_len 0 (size.width * size.height))

-- on each pixel of that size
abbrev pub Everywhere : Size → (ℕ → ℕ → Type 0) → Type 0
Everywhere size P = (x y : ℕ) → x < size.width → y < size.height → P x y
