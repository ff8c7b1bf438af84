-- A row of pixels drawn on another.
use Rattle.std.specs.Prelude.{◌≡◌, ℕ, ◌<◌, cond, List, length, nat_lt, slice_index}
use Rattle.model.specs.declared.element.Element.{Element}
use Rattle.model.specs.Scene.{laid}

-- what stands at place k of a row once the pixels from of e are drawn on it
abbrev pub row_pixel : Element → List ℕ → List ℕ → ℕ → ℕ
row_pixel e from to k = cond (nat_lt k (length from)) (laid e (slice_index from k) (slice_index to k)) (slice_index to k)

-- after is the row before with the pixels from of e drawn on it
abbrev pub RowDrawn : Element → List ℕ → List ℕ → List ℕ → Type 0
RowDrawn e from before after = (k : ℕ) → k < length before → slice_index after k ≡ row_pixel e from before k
