-- What an output answers when it is switched on or is to show a scene.
use Rattle.std.specs.Prelude.{ℕ, Bool, true, false, cond, ◌&&◌, ◌||◌, List, length, Ok, Err, Result, ◌==◌, nat_le}
use Rattle.model.specs.declared.element.Element.{Element}
use Rattle.model.specs.declared.fault.Fault.{Fault}
use Rattle.model.specs.declared.size.Size.{Size}
use Rattle.model.specs.Buffer.{longest, all_sound}
use Rattle.model.specs.Fault.{fault}

abbrev pub Answer : Type 0
Answer = Result (Unit {0}) Fault

abbrev pub accepted : Answer → Bool
accepted (Ok _) = true
accepted (Err _) = false

-- a refusal by the output, which is checked last, at station 9, and names no word
abbrev pub output_fault : ℕ → Answer
output_fault n = Err (fault n 9 0)

-- most elements in a scene
abbrev pub most_elements : ℕ
most_elements = 32

-- switching on an output of that size
abbrev pub on_answer : Size → Answer
on_answer s = cond (s.width == 0 && s.height == 0) (output_fault 19) (Ok tt)

-- whether a scene can be shown with a pixel memory of n pixels
abbrev pub showable : List Element → ℕ → Bool
showable scene n = nat_le (length scene) most_elements && all_sound n scene

-- showing a scene with a pixel memory of n pixels on an output that is lit or not
abbrev pub show_answer : Bool → List Element → ℕ → Answer
show_answer lit scene n = cond lit (cond (showable scene n) (Ok tt) (output_fault 18)) (output_fault 17)

-- the sizes that an output may have: 0 × 0, or sides of 1 to 4,096
abbrev pub sized : Size → Bool
sized s =
    (s.width == 0 && s.height == 0) || (nat_le 1 s.width && nat_le s.width longest && nat_le 1 s.height && nat_le s.height longest)

-- a second step, asked where the first is accepted
abbrev pub then : Answer → Answer → Answer
then (Ok _) next = next
then (Err f) next = Err f
