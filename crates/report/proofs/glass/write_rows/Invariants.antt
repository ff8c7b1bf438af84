-- The text of the pixels so far stands after what was there before.
use Rattle.std.proofs.Common.{◌≡◌, ◌++◌, vec_items}
use Rattle.std.specs.List.{range_with_len, flat_map}
use Rattle.report.specs.Report.{pixel_word}
use Rattle.report.proofs.glass.write_rows.Given as goal

abbrev pub invariant-loop-i : goal.invariant-loop-i
invariant-loop-i l = vec_items l.out ≡ vec_items l.initial.out ++ flat_map (pixel_word l.width l.pixels) (range_with_len 0 l.i)
