-- What is printed of a scene file.
use Rattle.std.specs.Prelude.{◌≡◌, ℕ, true, cond, List, [], ◌++◌, length, replicate, Ok, vec_items}
use Rattle.std.specs.Bool.{then_some}
use Rattle.std.specs.Option.{option_map}
use Rattle.model.specs.declared.element.Element.{Element}
use Rattle.model.specs.declared.size.Size.{Size}
use Rattle.model.specs.Output.{Answer, accepted, output_fault, show_answer, then}
use Rattle.model.specs.Scene.{picture}
use Rattle.raster.specs.Frame.{has_sides}
use Rattle.raster.specs.Raster.{raster}
use Rattle.scene.specs.declared.content.Console.{Console}
use Rattle.scene.specs.declared.content.Item.{Item}
use Rattle.scene.specs.Items.{filled_all, elements}
use Rattle.report.specs.Report.{answer_line, glass_line, row_lines}
use Rattle.draw.specs.declared.output.Report.{Report}

-- the pixel memory: zeros, and then the pixels of the file
abbrev pub memory_of : Console → List Item → List ℕ
memory_of c items = filled_all (replicate c.pixels 0) items

-- of switching on where that is refused, else of showing a scene with a pixel memory of n pixels
abbrev pub shown_answer : Size → List Element → ℕ → Answer
shown_answer size scene n = then (cond (has_sides size) (Ok tt) (output_fault 19)) (show_answer true scene n)

abbrev pub answer_of : Console → List Item → Answer
answer_of c items = shown_answer c.size (elements items) (length (memory_of c items))

-- the picture of the file's scene, row by row
abbrev pub picture_of : Console → List Item → List ℕ
picture_of c items = raster c.size (picture (elements items) (memory_of c items))

-- the glass: its CRC, and then its rows
unfoldable pub shown_text : ℕ → List ℕ → List ℕ
shown_text width pixels = glass_line pixels ++ row_lines width pixels

-- the answer and, where it is no refusal, the glass
abbrev pub text_of : ℕ → Answer → List ℕ → List ℕ
text_of width answer pixels = answer_line answer ++ cond (accepted answer) (shown_text width pixels) []

-- what a report says of a console and the items of its file; it has the glass exactly where the answer is no refusal
pub record Reports (c : Console) (items : List Item) (r : Report) : Type 0 where
  pub text : vec_items r.text ≡ text_of c.size.width (answer_of c items) (picture_of c items)
  pub glass : option_map vec_items r.glass ≡ then_some (accepted (answer_of c items)) (picture_of c items)
