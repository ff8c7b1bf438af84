-- One more pixel in each turn.
use Rattle.std.proofs.Common.{[], ◌∷◌, ◌++◌, get_or, ap, ◌∙◌}
use Rattle.report.specs.Digits.{hex}
use Rattle.report.specs.Report.{pixel_word}
use Rattle.report.proofs.Appending.{one_more, counting_more}
use Rattle.report.proofs.glass.write_rows.Goals as goal

pub loop-i-preserved : goal.loop-i-preserved
loop-i-preserved c =
    let word = c.pixel_word.ensures ∙ ap (λ s. hex (get_or c.args.pixels.now c.loop-i.i 0) ++ s ∷ []) c.separator-end.ensures in
    one_more (pixel_word c.args.width c.args.pixels.now) _ _ _ _ _ _ _ (counting_more c.loop-i.i) word c.loop-i.invariant c.in_ok-extend_from_slice.ensures.items
