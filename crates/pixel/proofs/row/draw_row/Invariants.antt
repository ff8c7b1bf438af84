use Rattle.std.proofs.Common.{◌≡◌, ℕ, ◌<◌, ◌≤◌, get_or}
use Rattle.pixel.specs.Row.{row_pixel}
use Rattle.pixel.proofs.row.draw_row.Given as goal

abbrev pub invariant-loop-i : goal.invariant-loop-i
invariant-loop-i l =
    ((k : ℕ) → k < l.i → get_or l.to k 0 ≡ row_pixel l.e l.from l.initial.to k) × ((k : ℕ) → l.i ≤ k → get_or l.to k 0 ≡ get_or l.initial.to k 0)
