-- Items that fit a pixel memory.
use Rattle.std.specs.Prelude.{ℕ, ◌+◌, ◌≤◌}
use Rattle.scene.specs.declared.content.Item.{Item}
use Rattle.scene.specs.declared.content.Item.TheVariants.{Fill, Element}

-- the places of a fill are among the first n
abbrev pub Fits : ℕ → Item → Type 0
Fits n (Fill first run) = first + run.count ≤ n
Fits n (Element element) = Unit {0}
