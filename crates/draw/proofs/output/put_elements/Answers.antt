-- There are as many places as items, so each element finds one.
use Rattle.std.proofs.Common.{◌≤◌, length, arith, rules}
use Rattle.list.proofs.Laws.{appended_all}
use Rattle.scene.specs.Items.{elements}
use Rattle.draw.proofs.Counts.{few_elements}
use Rattle.draw.proofs.output.put_elements.Goals as goal

pub returns : goal.returns
returns c h =
    let new = c.new-list.ensures in
    let items = c.args.items.now in
    let few = few_elements items in
    let room : length (elements items) ≤ length c.new-list.result.places.now = rw new.places (omega arith) in
    let all = appended_all c.new-list.result c.collect_elements.new.out (elements items) c.collect_elements.ensures new.count room in
    (search rules, search rules)
