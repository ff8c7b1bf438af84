use Rattle.std.proofs.Common.{ap, ◌∙◌}
use Rattle.model.specs.Asked.{in_numbers}
use Rattle.model.specs.Word.{words}
use Rattle.model.proofs.Numbering.{request_asked}
use Rattle.model.proofs.Words.{words_below}
use Rattle.wire.proofs.decode.decode_request.Goals as goal

pub returns : goal.returns
returns c =
    let below = words_below c.args.body.now (λ i. (c.type_inv.body i).fits) in
    record {
      value = c.request_for.ensures;
      numbers = ap in_numbers c.request_for.ensures ∙ request_asked (words c.args.body.now) below c.args.interface c.args.opcode;
    }
