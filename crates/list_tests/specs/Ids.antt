-- Ids of records that may have none.
use Rattle.std.specs.Prelude.{ℕ, Bool, false, Some, None, Option, ◌==◌}

abbrev pub is_id : ℕ → Option ℕ → Bool
is_id i (Some k) = k == i
is_id i None = false
