-- The pixel memory and the picture that should stand on the glass.
use Rattle.std.specs.Prelude.{ℕ, cond, List, [], ◌∷◌, length}
use Rattle.model.specs.Pixel.{black}
use Rattle.model.specs.Scene.{picture}
use Rattle.rules.specs.State.{Model}
use Rattle.rules.specs.Walk.{scene}
use Rattle.rules.specs.Call.{Call, paint_call, painted}
use Rattle.laws.specs.History.{model_after, successful_frame, lights}

-- the pixel memory after a call: only an accepted paint changes it
abbrev pub memory_after : Call → Model → List ℕ → List ℕ
memory_after (paint_call client id offset new n) m memory = painted client id offset new memory m
memory_after _ m memory = memory

-- one pixel memory serves the whole run; start is what it held before the first call
module _ (start : List ℕ) where
  abbrev pub pixels : List Call → List ℕ
  pixels [] = start
  pixels (c ∷ cs) = memory_after c (model_after (length start) cs) (pixels cs)

  -- the last picture, at column x and row y: that of the scene at the last successful frame, with the pixels as they were then, or black if the output was switched on since
  abbrev pub last_picture : List Call → ℕ → ℕ → ℕ
  last_picture [] x y = black
  last_picture (c ∷ cs) x y =
      cond (successful_frame (length start) c cs) (picture (scene (model_after (length start) cs)) (pixels cs) x y)
      (cond (lights (length start) c cs) black (last_picture cs x y))
