-- What a buffer may be, and its span in the pixel memory.
use Rattle.std.specs.Prelude.{◌≡◌, ℕ, ◌+◌, ◌*◌, ◌<◌, Bool, true, ◌&&◌, List, [], ◌∷◌, nat_le, slice_index}
use Rattle.model.specs.declared.element.Element.{Element}

-- the longest side and the largest stride, in pixels
abbrev pub longest : ℕ
longest = 4096

-- how many pixels the span has, from first on
abbrev pub span : Element → ℕ
span e = e.stride * e.height

-- whether a buffer may have this width, height, stride and format
abbrev pub shaped : Element → Bool
shaped e =
    nat_le 1 e.width && nat_le e.width longest && nat_le 1 e.height && nat_le e.height longest && nat_le e.width e.stride && nat_le e.stride longest && nat_le e.format 1

-- whether e is as a buffer of a pixel memory of n pixels may be
abbrev pub sound : ℕ → Element → Bool
sound n e = shaped e && nat_le (e.first + span e) n

abbrev pub all_sound : ℕ → List Element → Bool
all_sound n [] = true
all_sound n (e ∷ es) = sound n e && all_sound n es

-- two pixel memories hold the same pixels on the span of e
abbrev pub SameOn : List ℕ → List ℕ → Element → Type 0
SameOn a b e = (k : ℕ) → k < span e → slice_index a (e.first + k) ≡ slice_index b (e.first + k)
