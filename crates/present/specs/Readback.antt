-- The glass read back.
use Rattle.std.specs.Prelude.{ℕ, ◌*◌, Bool, cond, ◌&&◌, Some, None, Option, ◌==◌, nat_lt}
use Rattle.model.specs.declared.size.Size.{Size}

-- the pixel x, y of a picture that stands on an output of that size, if it is lit and has it
abbrev pub glass_pixel : Bool → Size → (ℕ → ℕ → ℕ) → ℕ → ℕ → Option ℕ
glass_pixel lit size f x y = cond (lit && (nat_lt x size.width && nat_lt y size.height)) (Some (f x y)) None

-- whether a lit output of that size has n pixels
abbrev pub readable : Bool → Size → ℕ → Bool
readable lit size n = lit && n == size.width * size.height
