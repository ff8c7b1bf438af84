use Rattle.std.proofs.Common.{◌≡◌, vec_items}
use Rattle.text.specs.Lines.{lines_left}
use Rattle.scene.specs.Scene.{items_after}
use Rattle.scene.proofs.parse.read_items.Given as goal

abbrev pub invariant-loop-number : goal.invariant-loop-number
invariant-loop-number l =
    (goal.iterator-loop-number).can_next l.number-iterator × (goal.iterator-loop-number).is_finite l.number-iterator
    × (items_after l.pixels l.number-iterator.before (vec_items l.items) (lines_left l.number-iterator) ≡ items_after l.pixels l.initial.number-iterator.before (vec_items l.initial.items) (lines_left l.initial.number-iterator))
