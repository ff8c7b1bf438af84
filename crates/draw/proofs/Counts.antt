-- How many elements a file's items have.
use Rattle.std.proofs.Common.{◌≤◌, List, [], ◌∷◌, length, arith}
use Rattle.scene.specs.declared.content.Item.{Item}
use Rattle.scene.specs.declared.content.Item.TheVariants.{Fill, Element}
use Rattle.scene.specs.Items.{elements}

pub few_elements : (items : List Item) → length (elements items) ≤ length items
few_elements [] = omega arith
few_elements (Fill first run ∷ items) = let h = few_elements items in omega arith
few_elements (Element e ∷ items) = let h = few_elements items in omega arith
