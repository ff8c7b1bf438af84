use Rattle.std.proofs.Common.{◌≡◌, ◌+◌, ◌≤◌, max, length}
use Rattle.text.specs.Lines.{lines, lines_left}
use Rattle.text.specs.First.{first_line}
use Rattle.text.proofs.first.first_line.Given as goal

abbrev pub invariant-loop-number : goal.invariant-loop-number
invariant-loop-number l =
    (goal.iterator-loop-number).can_next l.lines × (goal.iterator-loop-number).is_finite l.lines
    × (first_line l.lines.before (lines_left l.lines) ≡ first_line 0 (lines l.text)) × (l.last ≡ max l.lines.before 1)
    × (l.lines.before + length l.lines.text ≤ length l.text)
