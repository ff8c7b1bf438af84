-- The words of a message: four bytes each, the low byte first.
use Rattle.std.specs.Prelude.{ℕ, suc, ◌+◌, ◌-◌, ◌*◌, ◌/◌, cond, List, map, length, ℤ, pos, negsuc, ◌-ℤ◌, nat_lt, slice_index}
use Rattle.std.specs.List.{range_with_len}

-- the word at place i
abbrev pub word : List ℕ → ℕ → ℕ
word bytes i =
    slice_index bytes (4 * i) + slice_index bytes (4 * i + 1) * 0x100 + slice_index bytes (4 * i + 2) * 0x1_0000 + slice_index bytes (4 * i + 3) * 0x100_0000

-- the words of which all four bytes are there
unfoldable pub words : List ℕ → List ℕ
words bytes = map (word bytes) (range_with_len 0 (length bytes / 4))

-- the signed number that a word stands for, in two's complement
unfoldable pub int : ℕ → ℤ
int w = cond (nat_lt w 0x8000_0000) (pos w) (pos w -ℤ pos 0x1_0000_0000)

-- the word that stands for a signed number: `negsuc n` is -1 - n
abbrev pub int_word : ℤ → ℕ
int_word (pos n) = n
int_word (negsuc n) = 0x1_0000_0000 - suc n
