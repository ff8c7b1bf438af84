-- How often a pixel comes, by the last byte of what stands in front of it.
use Rattle.std.proofs.Common.{◌≡◌, ℕ, ◌-◌, ◌<◌, cond, eqb, List, [], ◌∷◌, length, get_or, take, None, arith}
use Rattle.text.specs.Number.{unsigned}
use Rattle.text.specs.Pixel.{times}

pub times_some : (xs : List ℕ) → 0 < length xs → times xs ≡ cond (eqb (get_or xs (length xs - 1) 0) 42) (unsigned (take (length xs - 1) xs)) None
unfolding times
times_some [] h = absurd (omega arith)
times_some (b ∷ bs) h =
    let e : length (b ∷ bs) - 1 ≡ length bs = omega arith in
    rw e
