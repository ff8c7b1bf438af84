-- The parts of the test of an element, as facts.
use Rattle.std.specs.Prelude.{ℕ, ◌+◌, ◌≤◌}
use Rattle.model.specs.declared.element.Element.{Element}
use Rattle.model.specs.Buffer.{longest, span}

pub record Sound (n : ℕ) (e : Element) : Type 0 where
  pub wide : 1 ≤ e.width
  pub wide_most : e.width ≤ longest
  pub high : 1 ≤ e.height
  pub high_most : e.height ≤ longest
  pub apart : e.width ≤ e.stride
  pub apart_most : e.stride ≤ longest
  pub known : e.format ≤ 1
  pub fits : e.first + span e ≤ n
