use Rattle.std.proofs.Common.{◌<◌, length, sym, arith}
use Rattle.std.proofs.lemmas.List.{take_rest, drop_all}
use Rattle.std.proofs.lemmas.Bool.{eqb-false}
use Rattle.text.proofs.Parted.{next_line}
use Rattle.text.proofs.lines.split_line.Goals as goal

pub returns-in_default-empty-clause-parts : goal.returns-in_default-empty-clause-parts
returns-in_default-empty-clause-parts c =
    let some : 0 < length c.args.text.now = omega (arith, eqb-false _ 0 (sym c.if-is_empty.ensures)) in
    next_line _ _ _ _ _ c.line_length.ensures.count some c.split_at.ensures.front c.split_at.ensures.back (sym (drop_all 1 c.split_at.result.1.now (omega arith)))

pub returns-in_default-len1-up-clause-parts : goal.returns-in_default-len1-up-clause-parts
returns-in_default-len1-up-clause-parts c =
    let some : 0 < length c.args.text.now = omega (arith, eqb-false _ 0 (sym c.if-is_empty.ensures)) in
    next_line _ _ _ _ _ c.line_length.ensures.count some c.split_at.ensures.front c.split_at.ensures.back (take_rest c.split_at.result.1.now 1)
