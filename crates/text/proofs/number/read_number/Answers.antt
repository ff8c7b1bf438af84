use Rattle.std.proofs.Common.{sym, arith, rules}
use Rattle.std.proofs.lemmas.Bool.{eqb-false}
use Rattle.text.proofs.Digits.{number_some, no_more, one_more, all_digits}
use Rattle.text.proofs.number.read_number.Goals as goal

pub loop-byte-init : goal.loop-byte-init
loop-byte-init c =
    (omega arith, sym (number_some c.args.base c.args.most c.args.word.now (omega (arith, eqb-false _ 0 (sym c.if-is_empty.ensures)))))

pub returns-in_err-n : goal.returns-in_err-n
returns-in_err-n c =
    let none = no_more c.args.base c.args.most c.loop-byte.n c.args.word.now c.loop-byte.byte-index c.loop-byte-test.true c.loop-byte.invariant.1 (sym c.in_err-n.ensures) in
    search rules

pub loop-byte-preserved : goal.loop-byte-preserved
loop-byte-preserved c =
    one_more c.args.base c.args.most c.loop-byte.n c.args.word.now c.loop-byte.byte-index c.loop-byte-test.true c.loop-byte.invariant.1 _ (sym c.in_ok-n.ensures)

pub returns : goal.returns
returns c =
    all_digits c.args.base c.args.most c.loop-byte.n c.args.word.now c.loop-byte.byte-index c.loop-byte-test.false c.loop-byte.invariant.0 c.loop-byte.invariant.1
