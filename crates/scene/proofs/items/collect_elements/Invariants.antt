use Rattle.std.proofs.Common.{take}
use Rattle.list.specs.Appended.{Appended}
use Rattle.scene.specs.Items.{elements}
use Rattle.scene.proofs.items.collect_elements.Given as goal

abbrev pub invariant-loop-item : goal.invariant-loop-item
invariant-loop-item l = Appended l.initial.out l.out (elements (take l.item-index l.items))
