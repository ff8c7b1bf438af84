-- The part of a run of places that lies on the output.
use Rattle.std.specs.Prelude.{◌≡◌, ℕ, ◌+◌, ◌<◌, ◌≤◌, ◌&&◌, ℤ, nat_le, nat_lt}
use Rattle.model.specs.Scene.{inside, offset}
use Rattle.raster.specs.declared.clip.Run.{Run}

-- of the n places from p on, those below limit are the count of a run from its place skip on, and they stand at from and after
pub record Clipped (p : ℤ) (n limit : ℕ) (run : Run) : Type 0 where
  pub in_limit : run.from + run.count ≤ limit
  pub in_run : run.skip + run.count ≤ n
  pub exact : (x : ℕ) → x < limit → inside p n x ≡ (nat_le run.from x && nat_lt x (run.from + run.count))
  pub lies : (k : ℕ) → k < run.count → offset p (run.from + k) ≡ run.skip + k
