-- Pixels as words write them: PIXEL, or N*PIXEL for N of the same.
use Rattle.std.specs.Prelude.{ℕ, ◌-◌, cond, List, [], ◌∷◌, length, take, drop, Some, None, Option, ◌==◌, slice_index}
use Rattle.text.specs.declared.pixel.PixelRun.{PixelRun}
use Rattle.text.specs.Number.{number, unsigned}

-- eight hex digits
unfoldable pub pixel : List ℕ → Option ℕ
pixel word = cond (length word == 8) (number 16 4294967295 word) None

-- what stands in front of a pixel says how often it comes: once for nothing, and N times for N*
unfoldable pub times : List ℕ → Option ℕ
times [] = Some 1
times (b ∷ bs) =
    cond (slice_index (b ∷ bs) (length bs) == 42) (unsigned (take (length bs) (b ∷ bs))) None

-- n times the pixel p, where there are both
abbrev pub run : Option ℕ → Option ℕ → Option PixelRun
run None p = None
run (Some n) None = None
run (Some n) (Some p) = Some (record { count = n; pixel = p })

-- the pixels that a word writes: its last eight bytes are the pixel
abbrev pub pixels_of : List ℕ → Option PixelRun
pixels_of word = run (times (take (length word - 8) word)) (pixel (drop (length word - 8) word))
