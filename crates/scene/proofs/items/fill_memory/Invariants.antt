use Rattle.std.proofs.Common.{◌≡◌, take}
use Rattle.scene.specs.Items.{filled_all}
use Rattle.scene.proofs.items.fill_memory.Given as goal

abbrev pub invariant-loop-item : goal.invariant-loop-item
invariant-loop-item l = l.memory ≡ filled_all l.initial.memory (take l.item-index l.items)
