-- The lines of a report.
use Rattle.std.specs.Prelude.{ℕ, ◌+◌, ◌%◌, cond, ◌||◌, List, [], ◌∷◌, ◌++◌, length, Ok, Err, codes, decimal, ◌==◌, slice_index}
use Rattle.std.specs.List.{range_with_len, flat_map}
use Rattle.model.specs.Output.{Answer}
use Rattle.report.specs.Crc.{crc, bytes}
use Rattle.report.specs.Digits.{hex}
use Rattle.report.specs.Output.{spaced}

-- the numbers of an answer
abbrev pub answer_fields : Answer → List ℕ
answer_fields (Ok _) = 0 ∷ 0 ∷ 0 ∷ []
answer_fields (Err fault) = fault.number ∷ fault.station ∷ fault.word ∷ []

abbrev pub answer_line : Answer → List ℕ
answer_line a = codes "answer" ++ spaced decimal (answer_fields a) ++ codes "\n"

abbrev pub glass_line : List ℕ → List ℕ
glass_line pixels = codes "glass " ++ (hex (crc (bytes pixels)) ++ codes "\n")

-- what stands after the first n of so many pixels: the end of the line after the last of a row and the last of all, else a space
abbrev pub separator : ℕ → ℕ → ℕ → ℕ
separator width count n = cond (n % width == 0 || n == count) 10 32

-- the pixel at i of these, with what stands after it
abbrev pub pixel_word : ℕ → List ℕ → ℕ → List ℕ
pixel_word width pixels i = hex (slice_index pixels i) ++ (separator width (length pixels) (i + 1) ∷ [])

-- rows of so many pixels, each on a line; no row is 0 wide
abbrev pub row_lines : ℕ → List ℕ → List ℕ
row_lines width pixels = cond (width == 0) [] (flat_map (pixel_word width pixels) (range_with_len 0 (length pixels)))
