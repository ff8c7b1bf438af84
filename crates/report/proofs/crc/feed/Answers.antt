-- Eight shifts, one for each number of the range.
use Rattle.std.proofs.Common.{bit_xor, refl, ap, ◌∙◌, fold, rules}
use Rattle.std.specs.List.{range_with_len}
use Rattle.std.proofs.lemmas.Iterator.{YieldsList-from_range}
use Rattle.std.proofs.lemmas.Iterator.Consumers.{fold_from_yields_List}
use Rattle.report.specs.Crc.{shifts, shifted}
use Rattle.report.proofs.crc.feed.Goals as goal

pub returns : goal.returns
unfolding shifts
returns c =
    fold_from_yields_List _ (λ register _. shifted register) _ _ c.fold.ensures.ran (YieldsList-from_range 0 8 8 refl refl) (λ a x b q k. search rules)
    ∙ ap (λ byte. fold (λ register _. shifted register) (bit_xor c.args.crc byte) (range_with_len 0 8)) c.from.ensures
