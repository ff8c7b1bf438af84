-- The tree of surfaces: who is held back, and who descends from whom. The number that falls is at least the tree's depth.
use Rattle.std.specs.Prelude.{ℕ, zero, suc, Bool, false, ◌||◌, ◌==◌}
use Rattle.rules.specs.Table.{some_and}
use Rattle.rules.specs.State.{Model, surface_at}

-- p has a parent, and it or an ancestor that has a parent is synchronised
unfoldable pub held_back_in : ℕ → Model → ℕ → Bool
held_back_in zero m p = false
held_back_in (suc n) m p = some_and (λ q. (surface_at m p).sync || held_back_in n m q) (surface_at m p).parent

abbrev pub held_back : Model → ℕ → Bool
held_back m p = held_back_in 32 m p

-- p descends from a
unfoldable pub descends_in : ℕ → Model → ℕ → ℕ → Bool
descends_in zero m p a = false
descends_in (suc n) m p a = some_and (λ q. (q == a) || descends_in n m q a) (surface_at m p).parent

abbrev pub descends : Model → ℕ → ℕ → Bool
descends m p a = descends_in 32 m p a
