use Rattle.std.proofs.Common.{take}
use Rattle.model.specs.Scene.{picture}
use Rattle.raster.specs.Redrawn.{Redrawn}
use Rattle.raster.proofs.draw.Frame.draw_scene.Given as goal

abbrev pub invariant-loop-e : goal.invariant-loop-e
invariant-loop-e l = Redrawn (λ x y _. picture (take l.e-index l.scene) l.memory x y) l.initial.self l.self
