use Rattle.std.proofs.Common.{◌≡◌, ◌≤◌, drop}
use Rattle.text.specs.Number.{value, at_most, number}
use Rattle.text.proofs.number.read_number.Given as goal

abbrev pub invariant-loop-byte : goal.invariant-loop-byte
invariant-loop-byte l =
    (l.n ≤ l.most) × (at_most l.most (value l.base l.n (drop l.byte-index l.word)) ≡ number l.base l.most l.word)
