-- The bytes of a word, two digits at a time.
use Rattle.std.proofs.Common.{◌≡◌, ℕ, ◌≤◌, List, [], ◌∷◌, ◌++◌, length, get_or, drop, Ok, arith}
use Rattle.recording.specs.Message.{hex_byte, hex_bytes}

pub next_byte : (so_far more digits rest : List ℕ) (byte : ℕ) → 2 ≤ length digits → rest ≡ drop 2 digits → Ok byte ≡ hex_byte (get_or digits 0 0) (get_or digits 1 0) → more ≡ so_far ++ byte ∷ [] → hex_bytes more rest ≡ hex_bytes so_far digits
next_byte so_far more [] rest byte long past made pushed = absurd (omega arith)
next_byte so_far more (a ∷ []) rest byte long past made pushed = absurd (omega arith)
next_byte so_far more (a ∷ (b ∷ bs)) rest byte long past made pushed = rw (past, pushed, ← made)
