use Rattle.std.proofs.Common.{List, [], get_or, take, sym, ap, ◌∙◌, subst}
use Rattle.std.proofs.lemmas.List.{take_more, flat_map_more}
use Rattle.model.specs.declared.element.Element.{Element}
use Rattle.list.proofs.Laws.{appended_then}
use Rattle.list.specs.Appended.{Appended}
use Rattle.scene.specs.declared.content.Item.TheVariants.{Fill}
use Rattle.scene.specs.Items.{element_of, elements}
use Rattle.scene.proofs.items.collect_elements.Goals as goal

pub loop-item-preserved : goal.loop-item-preserved
loop-item-preserved c =
    let items = c.args.items.now in
    let i = c.loop-item.item-index in
    let none = Fill 0 (record { count = 0; pixel = 0 }) in
    let more = flat_map_more element_of [] (take i items) (get_or items i none) ∙ ap elements (sym (take_more items i none c.loop-item-test.true)) in
    subst (λ (es : List Element). Appended c.args.out.now c.push_element.new.out es) more
    (appended_then c.args.out.now c.loop-item.out c.push_element.new.out _ _ c.loop-item.invariant c.push_element.ensures)
