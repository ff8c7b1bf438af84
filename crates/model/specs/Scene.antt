-- A scene, which is a list of elements with the lowest first, and its picture, pixel by pixel.
use Rattle.std.specs.Prelude.{ℕ, suc, ◌+◌, ◌-◌, ◌*◌, Bool, cond, ◌&&◌, List, ℤ, pos, negsuc, fold, ◌==◌, nat_le, nat_lt, slice_index}
use Rattle.model.specs.declared.element.Element.{Element}
use Rattle.model.specs.declared.size.Size.{Size}
use Rattle.model.specs.Pixel.{blended, opaque, black}

-- whether x is one of the n places from p on
abbrev pub inside : ℤ → ℕ → ℕ → Bool
inside (pos p) n x = nat_le p x && nat_lt x (p + n)
inside (negsuc p) n x = nat_lt (x + suc p) n

-- which of the places from p on x is, counted from 0
abbrev pub offset : ℤ → ℕ → ℕ
offset (pos p) x = x - p
offset (negsuc p) x = x + suc p

-- the sides of e on the output
abbrev pub placed : Element → Size
placed e = record { width = e.width; height = e.height }

-- whether e covers the output's pixel x, y
abbrev pub covers : Element → ℕ → ℕ → Bool
covers e x y = inside e.x (placed e).width x && inside e.y (placed e).height y

-- where in the pixel memory the pixel is that e has at x, y of the output: column u of row v lies at first + v × stride + u
abbrev pub source : Element → ℕ → ℕ → ℕ
source e x y = e.first + offset e.y y * e.stride + offset e.x x

-- a pixel s of e laid on the pixel d below it: format 0 blends, the other replaces
abbrev pub laid : Element → ℕ → ℕ → ℕ
laid e s d = cond (e.format == 0) (blended s d) (opaque s)

-- the pixel x, y once e is drawn on d with the pixel memory m
abbrev pub drawn : List ℕ → ℕ → ℕ → ℕ → Element → ℕ
drawn m x y d e = cond (covers e x y) (laid e (slice_index m (source e x y)) d) d

-- the pixel x, y of the picture of a scene with the pixel memory m: black, then each element in turn
abbrev pub picture : List Element → List ℕ → ℕ → ℕ → ℕ
picture scene m x y = fold (drawn m x y) black scene
