-- The parents in a table of surfaces make a forest: no surface is above itself, so a way up or down ends within 32 steps.
use Rattle.std.specs.Prelude.{◌≡◌, ℕ, suc, ◌<◌, List, length, Some, Option}
use Rattle.rules.specs.State.{Surface, no_surface}
use Rattle.rules.specs.Table.{record_at}

-- the parent of the surface at a place; past the table there is none
abbrev pub parent_in : List (Option Surface) → ℕ → Option ℕ
parent_in t p = (record_at no_surface t p).parent

-- n steps up from p to a, each from a surface to its parent
pub data Climb (t : List (Option Surface)) : ℕ → ℕ → ℕ → Type 0 where
  stay : (p : ℕ) → Climb t 0 p p
  rise : (n p q a : ℕ) → parent_in t p ≡ Some q → Climb t n q a → Climb t (suc n) p a

pub record Forest (t : List (Option Surface)) : Type 0 where
  pub no_cycle : (n p : ℕ) → Climb t (suc n) p p → ⊥
  pub parents : (p q : ℕ) → parent_in t p ≡ Some q → q < length t

-- every way up to p has under n steps, so a walk down from p by n levels meets all that is below it
abbrev pub Fits : List (Option Surface) → ℕ → ℕ → Type 0
Fits t n p = (k a : ℕ) → Climb t k a p → k < n
