-- The two digits of each byte, the highest byte first.
use Rattle.std.proofs.Common.{◌≡◌, ◌++◌, [], ◌∷◌, rules, ap, ◌∙◌}
use Rattle.hex.specs.Hex.{encode_lower}
use Rattle.report.proofs.Hex.{byte_pairs}
use Rattle.report.proofs.glass.pixel_word.Goals as goal

pub returns : goal.returns
returns c =
    let written : c.encode_to_slice.new.output ≡ encode_lower c.to_be_bytes.result = search rules in
    ap (λ digits. digits ++ c.args.end ∷ []) (written ∙ ap encode_lower c.to_be_bytes.ensures ∙ byte_pairs c.args.pixel)
