use Rattle.std.proofs.Common.{◌+◌, cond, ◌&&◌, ltb, leb, get_or}
use Rattle.model.specs.Scene.{inside, laid, source}
use Rattle.raster.specs.Redrawn.{Redrawn}
use Rattle.raster.proofs.draw.Frame.draw.Given as goal

abbrev pub invariant-loop-row : goal.invariant-loop-row
invariant-loop-row l = Redrawn (λ x y below. cond (inside l.e.x l.e.width x && (leb l.down.from y && ltb y (l.down.from + l.row))) (laid l.e (get_or l.memory (source l.e x y) 0) below) below) l.initial.self l.self
