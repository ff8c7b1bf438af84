-- A pixel of 32 bits: four channels of eight bits, alpha at the top, then red, green and blue.
use Rattle.std.specs.Prelude.{ℕ, ◌+◌, ◌-◌, ◌*◌, ◌/◌, ◌%◌, min}

abbrev pub alpha : ℕ → ℕ
alpha p = p / 0x100_0000

abbrev pub red : ℕ → ℕ
red p = p / 0x1_0000 % 256

abbrev pub green : ℕ → ℕ
green p = p / 256 % 256

abbrev pub blue : ℕ → ℕ
blue p = p % 256

abbrev pub argb : ℕ → ℕ → ℕ → ℕ → ℕ
argb a r g b = a * 0x100_0000 + r * 0x1_0000 + g * 256 + b

-- one channel s of a premultiplied source with alpha a, over the channel d below it
abbrev pub over : ℕ → ℕ → ℕ → ℕ
over a s d = min 255 (s + (d * (255 - a) + 127) / 255)

-- a premultiplied source pixel s, whose alpha is a, over the pixel d below it
unfoldable pub blended_by : ℕ → ℕ → ℕ → ℕ
blended_by a s d = argb (over a a (alpha d)) (over a (red s) (red d)) (over a (green s) (green d)) (over a (blue s) (blue d))

abbrev pub blended : ℕ → ℕ → ℕ
blended s d = blended_by (alpha s) s d

-- the pixel s with another alpha
unfoldable pub with_alpha : ℕ → ℕ → ℕ
with_alpha a s = argb a (red s) (green s) (blue s)

-- a pixel without alpha of its own: its top eight bits become 255
abbrev pub opaque : ℕ → ℕ
opaque s = with_alpha 255 s

abbrev pub black : ℕ
black = 0xff00_0000
