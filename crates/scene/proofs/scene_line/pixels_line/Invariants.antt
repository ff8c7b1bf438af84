use Rattle.std.proofs.Common.{◌≡◌, vec_items}
use Rattle.scene.specs.SceneLine.{fills}
use Rattle.scene.proofs.scene_line.pixels_line.Given as goal

abbrev pub invariant-loop-word : goal.invariant-loop-word
invariant-loop-word l =
    (goal.iterator-loop-word).can_next l.word-iterator × (goal.iterator-loop-word).is_finite l.word-iterator
    × (fills l.pixels l.first (vec_items l.items) l.word-iterator ≡ fills l.pixels l.initial.first (vec_items l.initial.items) l.initial.word-iterator)
