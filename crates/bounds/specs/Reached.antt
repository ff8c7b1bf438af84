-- What holds of every core that calls can make.
use Rattle.std.specs.Prelude.{◌≡◌, ℕ, ◌+◌, ◌≤◌, Bool, List, length, ℤ}
use Rattle.model.specs.declared.event.Event.{Event}
use Rattle.rules.specs.State.{Model, empty}
use Rattle.rules.specs.Run.{Run, plain}
use Rattle.rules.specs.Tree.{held_back_in, descends_in}
use Rattle.rules.specs.Apply.{apply_in}
use Rattle.rules.specs.Walk.{walk_in}
use Rattle.rules.specs.Call.{Call, rule, after}
use Rattle.bounds.specs.Forest.{parent_in}
use Rattle.bounds.specs.Sound.{Spans, pending_in, current_in}

-- the core after any calls, from a new one over a pixel memory of so many pixels
abbrev pub reached : ℕ → List Call → Model
reached size calls = after (empty size) calls

-- no call sends more events than an event list has places
abbrev pub EventsFit : Type 0
EventsFit = (size : ℕ) (calls : List Call) (c : Call) → length (rule c (reached size calls)).events ≤ 160

-- the spans of buffer records lie inside the pixel memory, and no two meet
abbrev pub SpansApart : Type 0
SpansApart = (size : ℕ) (calls : List Call) → Spans (reached size calls).size (reached size calls).buffers

-- n has the parents and the orders of m; it may be a core in the midst of a call
pub record SameOrders (m n : Model) : Type 0 where
  pub places : length n.surfaces ≡ length m.surfaces
  pub parents : (p : ℕ) → parent_in n.surfaces p ≡ parent_in m.surfaces p
  pub pending : (p : ℕ) → pending_in n.surfaces p ≡ pending_in m.surfaces p
  pub current : (p : ℕ) → current_in n.surfaces p ≡ current_in m.surfaces p

-- the rules go 32 levels down and 32 steps up; further they would find nothing
pub record DeepEnough (m : Model) : Type 0 where
  pub apply : (n : ℕ) (down : Bool) (p : ℕ) (r : Run (List Event)) → SameOrders m r.model → apply_in plain (n + 32) down p r ≡ apply_in plain 32 down p r
  pub walk : (n : ℕ) (x y : ℤ) (p : ℕ) → walk_in (n + 32) m x y p ≡ walk_in 32 m x y p
  pub held_back : (n p : ℕ) → held_back_in (n + 32) m p ≡ held_back_in 32 m p
  pub descends : (n p a : ℕ) → descends_in (n + 32) m p a ≡ descends_in 32 m p a

abbrev pub DepthSuffices : Type 0
DepthSuffices = (size : ℕ) (calls : List Call) → DeepEnough (reached size calls)
