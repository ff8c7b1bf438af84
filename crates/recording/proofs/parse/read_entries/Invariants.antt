use Rattle.std.proofs.Common.{◌≡◌, vec_items}
use Rattle.text.specs.Lines.{lines_left}
use Rattle.recording.specs.Content.{plain_entries}
use Rattle.recording.specs.Recording.{entries_after}
use Rattle.recording.proofs.parse.read_entries.Given as goal

abbrev pub invariant-loop-number : goal.invariant-loop-number
invariant-loop-number l =
    (goal.iterator-loop-number).can_next l.number-iterator × (goal.iterator-loop-number).is_finite l.number-iterator
    × (entries_after l.number-iterator.before l.places (plain_entries (vec_items l.entries)) (lines_left l.number-iterator) ≡ entries_after l.initial.number-iterator.before 160 (plain_entries (vec_items l.initial.entries)) (lines_left l.initial.number-iterator))
