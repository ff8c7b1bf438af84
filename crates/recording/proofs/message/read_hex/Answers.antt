use Rattle.std.proofs.Common.{◌∙◌}
use Rattle.std.proofs.lemmas.List.{take_rest}
use Rattle.recording.proofs.Hex.{next_byte}
use Rattle.recording.proofs.message.read_hex.Goals as goal

pub loop-digits-preserved : goal.loop-digits-preserved
loop-digits-preserved c =
    next_byte _ _ c.loop-digits.digits.now _ _ c.in-len2-up.len_at_least (take_rest c.loop-digits.digits.now 2) c.in_ok-read_byte.ensures c.in_ok-push.ensures.items
    ∙ c.loop-digits.invariant
