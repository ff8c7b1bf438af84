-- CRC-32 as in PNG, bit by bit, and the bytes of pixels.
use Rattle.std.specs.Prelude.{ℕ, zero, suc, ◌/◌, ◌%◌, cond, List, [], ◌∷◌, fold, ◌==◌, bit_xor}
use Rattle.std.specs.List.{flat_map}

-- the register with its low bit shifted out; if that bit was 1, the polynomial is xored in
abbrev pub shifted : ℕ → ℕ
shifted register = cond (register % 2 == 1) (bit_xor (register / 2) 0xedb8_8320) (register / 2)

-- n bits shifted out, one after the other
unfoldable pub shifts : ℕ → ℕ → ℕ
shifts zero register = register
shifts (suc n) register = shifted (shifts n register)

-- the register after one more byte
abbrev pub fed : ℕ → ℕ → ℕ
fed register byte = shifts 8 (bit_xor register byte)

abbrev pub crc : List ℕ → ℕ
crc message = bit_xor (fold fed 0xffff_ffff message) 0xffff_ffff

-- the four bytes of a pixel, low byte first
abbrev pub pixel_bytes : ℕ → List ℕ
pixel_bytes p = p % 256 ∷ p / 256 % 256 ∷ p / 0x1_0000 % 256 ∷ p / 0x100_0000 % 256 ∷ []

abbrev pub bytes : List ℕ → List ℕ
bytes pixels = flat_map pixel_bytes pixels
