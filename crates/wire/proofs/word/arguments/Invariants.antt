use Rattle.std.proofs.Common.{◌≡◌, ℕ, ◌<◌, length, get_or}
use Rattle.model.specs.Word.{words}
use Rattle.wire.proofs.word.arguments.Given as goal

abbrev pub invariant-loop-i : goal.invariant-loop-i
invariant-loop-i g l =
    (length l.words ≡ g.row.N) × ((k : ℕ) → k < l.i → get_or l.words k 0 ≡ get_or (words l.body) k 0)
