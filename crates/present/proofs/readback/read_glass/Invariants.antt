use Rattle.std.proofs.Common.{◌≡◌, ℕ, ◌/◌, ◌%◌, ◌<◌, get_or}
use Rattle.present.proofs.readback.read_glass.Given as goal

abbrev pub invariant-loop-place : goal.invariant-loop-place
invariant-loop-place g l =
    (k : ℕ) → k < l.place → get_or l.pixels k 0 ≡ g.P.Presenter.glass l.p l.memory (k % l.width) (k / l.width)
