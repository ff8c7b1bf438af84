-- The header and the channels of the pixels so far stand after what was there before.
use Rattle.std.proofs.Common.{◌≡◌, ◌++◌, take, vec_items}
use Rattle.std.specs.List.{flat_map}
use Rattle.report.specs.Ppm.{channels, header}
use Rattle.report.proofs.ppm.write_ppm.Given as goal

abbrev pub invariant-loop-pixel : goal.invariant-loop-pixel
invariant-loop-pixel l = vec_items l.out ≡ vec_items l.fn.out ++ (header l.fn.size ++ flat_map channels (take l.pixel-index l.pixels))
