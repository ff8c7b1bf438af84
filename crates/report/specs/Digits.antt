-- Numbers in hexadecimal; in decimal they are written as `{}` does.
use Rattle.std.specs.Prelude.{ℕ, ◌/◌, ◌%◌, List, [], ◌∷◌, codes, slice_index}

-- the character of the lowest digit
abbrev pub hex_digit : ℕ → ℕ
hex_digit n = slice_index (codes "0123456789abcdef") (n % 16)

-- eight digits, the highest first
unfoldable pub hex : ℕ → List ℕ
hex n =
    hex_digit (n / 0x1000_0000) ∷ hex_digit (n / 0x100_0000) ∷ hex_digit (n / 0x10_0000) ∷ hex_digit (n / 0x1_0000)
    ∷ hex_digit (n / 0x1000) ∷ hex_digit (n / 0x100) ∷ hex_digit (n / 16) ∷ hex_digit n ∷ []
