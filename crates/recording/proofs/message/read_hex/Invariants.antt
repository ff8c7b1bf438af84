use Rattle.std.proofs.Common.{◌≡◌, length, vec_items}
use Rattle.recording.specs.Message.{hex_bytes}
use Rattle.recording.proofs.message.read_hex.Given as goal

abbrev pub invariant-loop-digits : goal.invariant-loop-digits
invariant-loop-digits l = hex_bytes (vec_items l.message) l.digits ≡ hex_bytes (vec_items l.initial.message) l.word

abbrev pub decreases-loop-digits : goal.decreases-loop-digits
decreases-loop-digits l = length l.digits
