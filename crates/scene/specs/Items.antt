-- What the items of a scene file are for.
use Rattle.std.specs.Prelude.{ℕ, ◌+◌, cond, List, [], ◌∷◌, ◌++◌, length, take, drop, replicate, fold, nat_le}
use Rattle.std.specs.List.{flat_map}
use Rattle.model.specs.declared.element.Element.{Element}
use Rattle.text.specs.declared.pixel.PixelRun.{PixelRun}
use Rattle.scene.specs.declared.content.Item.{Item}
use Rattle.scene.specs.declared.content.Item.TheVariants.{Fill, Element as ElementItem}

-- a memory with the run from the place first on, or as it was where that does not fit
unfoldable pub filled : ℕ → PixelRun → List ℕ → List ℕ
filled first run memory =
    cond (nat_le (first + run.count) (length memory)) (take first memory ++ (replicate run.count run.pixel ++ drop (first + run.count) memory)) memory

-- the memory after one item more
abbrev pub filled_by : List ℕ → Item → List ℕ
filled_by memory (Fill first run) = filled first run memory
filled_by memory (ElementItem element) = memory

-- the memory after the items, in order
abbrev pub filled_all : List ℕ → List Item → List ℕ
filled_all memory items = fold filled_by memory items

-- the element of an item that is one
abbrev pub element_of : Item → List Element
element_of (Fill first run) = []
element_of (ElementItem element) = element ∷ []

-- the elements among the items, in order
abbrev pub elements : List Item → List Element
elements items = flat_map element_of items
