use Rattle.std.proofs.Common.{◌≡◌, [], vec_items}
use Rattle.recording.specs.Paint.{paint_pixels}
use Rattle.recording.proofs.paint.paint_pixels.Given as goal

abbrev pub invariant-loop-word : goal.invariant-loop-word
invariant-loop-word l =
    (goal.iterator-loop-word).can_next l.word-iterator × (goal.iterator-loop-word).is_finite l.word-iterator
    × (paint_pixels (vec_items l.pixels) l.word-iterator ≡ paint_pixels [] l.initial.word-iterator)
