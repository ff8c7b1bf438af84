-- The pixels of a paint call.
use Rattle.std.specs.Prelude.{ℕ, List, [], ◌∷◌, ◌++◌, replicate, Ok, Result}
use Rattle.std.specs.Option.{ok_or}
use Rattle.text.specs.declared.problem.Problem.{Problem}
use Rattle.text.specs.declared.problem.Problem.TheVariants.{PixelForm}
use Rattle.text.specs.Argument.{and_then}
use Rattle.text.specs.Pixel.{pixels_of}

-- the pixels so far, and then those of the words
abbrev pub paint_pixels : List ℕ → List (List ℕ) → Result (List ℕ) Problem
paint_pixels so_far [] = Ok so_far
paint_pixels so_far (word ∷ ws) =
    and_then (ok_or (pixels_of word) PixelForm) λ run.
    paint_pixels (so_far ++ replicate run.count run.pixel) ws
