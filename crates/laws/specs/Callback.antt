-- Callbacks: when the state of one is applied, and which frame answers it.
use Rattle.std.specs.Prelude.{ℕ, Bool, false, not, ◌&&◌, ◌||◌, List, [], ◌∷◌, is_some}
use Rattle.std.specs.List.{list_any}
use Rattle.rules.specs.Name.{named, bears}
use Rattle.rules.specs.Call.{Call, is_current}
use Rattle.laws.specs.History.{model_after, successful_frame}
use Rattle.laws.specs.Object.{Made, last_object, is_last, is_older}

module _ (size : ℕ) where
  -- whether the callback o stands in the current state of its surface
  abbrev pub current : Made → List Call → Bool
  current o cs =
      is_last size o cs && list_any (λ k. bears o.client o.id k.client k.id && is_current k) (model_after size cs).callbacks

  -- whether the state that o was asked for in has been applied: o has been current after some call. That stays so when o has ended
  abbrev pub applied : Made → List Call → Bool
  applied o [] = false
  applied o (c ∷ cs) = current o (c ∷ cs) || applied o cs

  -- whether the surface s of the callback o lives: the id s is in use, and the last object with it is older than o
  abbrev pub surface_lives : Made → ℕ → List Call → Bool
  surface_lives o s cs =
      is_older o (last_object size cs o.client s) && is_some (named (model_after size cs) o.client s)

  -- c is a successful frame after the state of o was applied and before its surface s ended
  abbrev pub due : Made → ℕ → Call → List Call → Bool
  due o s c cs = successful_frame size c cs && (applied o cs && surface_lives o s cs)

  -- whether such a frame has come
  abbrev pub framed : Made → ℕ → List Call → Bool
  framed o s [] = false
  framed o s (c ∷ cs) = due o s c cs || framed o s cs

  -- whether c is the first such frame
  abbrev pub first_due : Made → ℕ → Call → List Call → Bool
  first_due o s c cs = due o s c cs && not (framed o s cs)
