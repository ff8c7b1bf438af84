-- The lines of a scene file; those after the console's past the word that says their kind.
use Rattle.std.specs.Prelude.{ℕ, ◌+◌, cond, List, [], ◌∷◌, ◌++◌, Ok, Err, codes, Result, nat_lt}
use Rattle.std.specs.Option.{ok_or}
use Rattle.model.specs.declared.element.Element.{Element}
use Rattle.text.specs.declared.pixel.PixelRun.{PixelRun}
use Rattle.text.specs.declared.problem.Argument.TheVariants.{X, Y, First, Width, Height, Stride, Format, Pixels}
use Rattle.text.specs.declared.problem.Problem.{Problem}
use Rattle.text.specs.declared.problem.Problem.TheVariants.{SceneStart, PixelForm, PixelsPastEnd}
use Rattle.scene.specs.declared.content.Console.{Console}
use Rattle.scene.specs.declared.content.Item.{Item}
use Rattle.scene.specs.declared.content.Item.TheVariants.{Fill}
use Rattle.text.specs.Argument.{and_then, reading, unsigned_argument, signed_argument, fixed_word, line_end}
use Rattle.text.specs.Pixel.{pixels_of}

-- console WIDTH HEIGHT composer PIXELS
abbrev pub console_line : List (List ℕ) → Result Console Problem
console_line ws =
    reading (fixed_word (codes "console") SceneStart) ws λ _ ws.
    reading (unsigned_argument Width) ws λ width ws.
    reading (unsigned_argument Height) ws λ height ws.
    reading (fixed_word (codes "composer") SceneStart) ws λ _ ws.
    reading (unsigned_argument Pixels) ws λ pixels ws.
    reading line_end ws λ _ _.
    Ok (record { size = record { width = width; height = height }; pixels = pixels })

-- X Y FIRST WIDTH HEIGHT STRIDE FORMAT
abbrev pub element_line : List (List ℕ) → Result Element Problem
element_line ws =
    reading (signed_argument X) ws λ x ws.
    reading (signed_argument Y) ws λ y ws.
    reading (unsigned_argument First) ws λ first ws.
    reading (unsigned_argument Width) ws λ width ws.
    reading (unsigned_argument Height) ws λ height ws.
    reading (unsigned_argument Stride) ws λ stride ws.
    reading (unsigned_argument Format) ws λ format ws.
    reading line_end ws λ _ _.
    Ok (record { x = x; y = y; first = first; width = width; height = height; stride = stride; format = format })

-- the pixels that a word writes, where they fit a memory of that many pixels from the place first on
abbrev pub placed_pixels : ℕ → ℕ → List ℕ → Result PixelRun Problem
placed_pixels pixels first word =
    and_then (ok_or (pixels_of word) PixelForm) λ run.
    cond (nat_lt pixels (first + run.count)) (Err PixelsPastEnd) (Ok run)

-- PIXEL.. to the places from first on, after the items so far
abbrev pub fills : ℕ → ℕ → List Item → List (List ℕ) → Result (List Item) Problem
fills pixels first so_far [] = Ok so_far
fills pixels first so_far (word ∷ ws) =
    and_then (placed_pixels pixels first word) λ run.
    fills pixels (first + run.count) (so_far ++ Fill first run ∷ []) ws

-- FIRST PIXEL..
abbrev pub pixels_line : ℕ → List Item → List (List ℕ) → Result (List Item) Problem
pixels_line pixels so_far ws =
    reading (unsigned_argument First) ws λ first ws.
    fills pixels first so_far ws
