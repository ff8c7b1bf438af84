-- What a scene file says.
use Rattle.std.specs.Prelude.{ℕ, ◌+◌, cond, List, [], ◌∷◌, ◌++◌, Some, None, Ok, Err, codes, Option, Result}
use Rattle.std.specs.Str.{bytes_eq}
use Rattle.text.specs.declared.problem.BadLine.{BadLine}
use Rattle.text.specs.declared.problem.Problem.{Problem}
use Rattle.text.specs.declared.problem.Problem.TheVariants.{SecondConsole, UnknownLine}
use Rattle.scene.specs.declared.content.Console.{Console}
use Rattle.scene.specs.declared.content.Item.{Item}
use Rattle.scene.specs.declared.content.Item.TheVariants.{Element}
use Rattle.text.specs.Argument.{and_then}
use Rattle.text.specs.First.{first_line, on_line}
use Rattle.text.specs.Lines.{lines, first_of, after_first}
use Rattle.text.specs.Words.{words}
use Rattle.scene.specs.SceneLine.{console_line, pixels_line, element_line}

-- a line after the console's, by its first word and those after it, where the pixel memory has that many pixels
abbrev pub item_by : ℕ → List Item → Option (List ℕ) → List (List ℕ) → Result (List Item) Problem
item_by pixels so_far None ws = Ok so_far
item_by pixels so_far (Some word) ws =
    cond (bytes_eq word (codes "pixels")) (pixels_line pixels so_far ws)
    (cond (bytes_eq word (codes "element")) (and_then (element_line ws) (λ element. Ok (so_far ++ Element element ∷ [])))
    (cond (bytes_eq word (codes "console")) (Err SecondConsole) (Err UnknownLine)))

abbrev pub item_line : ℕ → List Item → List (List ℕ) → Result (List Item) Problem
item_line pixels so_far ws = item_by pixels so_far (first_of ws) (after_first ws)

-- the items of the lines after the first n
abbrev pub items_after : ℕ → ℕ → List Item → List (List ℕ) → Result (List Item) BadLine
items_after pixels n so_far [] = Ok so_far
items_after pixels n so_far (l ∷ ls) =
    and_then (on_line (n + 1) (item_line pixels so_far (words l))) λ more.
    items_after pixels (n + 1) more ls

-- the console and the items of a text, or its first bad line
abbrev pub scene_of : List ℕ → Result (Console × List Item) BadLine
scene_of text =
    and_then (first_line 0 (lines text)) λ first.
    and_then (on_line first.0 (console_line (words first.1))) λ console.
    and_then (items_after console.pixels first.0 [] first.2) λ items.
    Ok (console, items)
