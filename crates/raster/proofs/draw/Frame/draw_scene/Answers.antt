use Rattle.std.proofs.Common.{ap, ◌∙◌}
use Rattle.std.proofs.lemmas.List.{take_all}
use Rattle.model.specs.Scene.{picture}
use Rattle.raster.proofs.Rasters.{rastered}
use Rattle.raster.proofs.draw.Frame.draw_scene.Goals as goal

pub returns-clause-pixels : goal.returns-clause-pixels
returns-clause-pixels c =
    let done = c.loop-e.invariant in
    rastered c.args.self.now.size _ c.loop-e.self.pixels.now (rw done.size at c.loop-e.self.long)
    (λ x y hx hy. done.pixels x y hx hy ∙ ap (λ s. picture s c.args.memory.now x y) (take_all _ _ c.loop-e-test.false))
