use Rattle.std.proofs.Common.{◌≡◌, [], vec_items}
use Rattle.recording.specs.Message.{message_bytes}
use Rattle.recording.proofs.message.read_message.Given as goal

abbrev pub invariant-loop-word : goal.invariant-loop-word
invariant-loop-word l =
    (goal.iterator-loop-word).can_next l.word-iterator × (goal.iterator-loop-word).is_finite l.word-iterator
    × (message_bytes (vec_items l.message) l.word-iterator ≡ message_bytes [] l.initial.word-iterator)
