-- The laws over whole runs, as they hold after each call. They are stated and not proved yet.
use Rattle.std.specs.Prelude.{◌≡◌, ℕ, ◌+◌, ◌<◌, true, cond, List, [], ◌∷◌, length, MatchOption}
use Rattle.std.specs.List.{AllByRecursion}
use Rattle.model.specs.declared.size.Size.{Size}
use Rattle.rules.specs.Hold.{holds}
use Rattle.laws.specs.History.{SameMemory, SameSize, model_after, successful_frame}
use Rattle.laws.specs.Picture.{pixels, last_picture}
use Rattle.laws.specs.Object.{Kind, callback, Made, objects}
use Rattle.laws.specs.Buffer.{commits, counted_place}
use Rattle.laws.specs.Callback.{framed, first_due}
use Rattle.laws.specs.Entry.{Entry, calls, going, received, RightValues}

-- of the newest call and those before it; before the first call there is none
abbrev pub OfNewest : (Entry → List Entry → Type 0) → List Entry → Type 0
OfNewest F [] = Unit {0}
OfNewest F (e ∷ h) = F e h

-- of the surface of a callback; other kinds have none
abbrev pub OfCallback : Kind → (ℕ → Type 0) → Type 0
OfCallback (callback s) F = F s
OfCallback _ F = Unit {0}

module _ (size : ℕ) where
  -- from its making to its destruction: each commit that carried the buffer o is released, or its hold stands
  abbrev pub Balanced : List Entry → Made → Type 0
  Balanced h o =
      MatchOption (counted_place size o (calls h)) (Unit {0}) λ b.
      commits size o (calls h) ≡ received size o h + holds (model_after size (calls h)) b

  -- nothing waits just after a successful frame
  abbrev pub Settled : Entry → List Entry → Type 0
  Settled e h =
      successful_frame size e.call (calls h) ≡ true → (model_after size (calls (e ∷ h))).waiting ≡ []

  -- a callback is sent one done if a successful frame came after its state was applied and before its surface ended, and else none
  abbrev pub AnsweredOnce : List Entry → Made → Type 0
  AnsweredOnce h o = OfCallback o.kind λ s. received size o h ≡ cond (framed size o s (calls h)) 1 0

  -- it is sent the done in the first such frame, and nothing in any other call
  abbrev pub AnsweredFirst : Entry → List Entry → Made → Type 0
  AnsweredFirst e h o =
      OfCallback o.kind λ s.
      going size o (calls (e ∷ h)) e.events ≡ cond (first_due size o s e.call (calls h)) 1 0

-- the laws after a call of a run. The pixel memory held start before the first call and holds now; the presenter has the size output, and pixel x y is its glass at column x and row y, worked out with the memory as it is now
pub record RunLaws (start : List ℕ) (output : Size) (h : List Entry) (pixel : ℕ → ℕ → ℕ) (now : List ℕ) : Type 0 where
  -- one pixel memory and one presenter serve the run
  pub one_memory : AllByRecursion (SameMemory (length start)) (calls h)
  pub one_presenter : AllByRecursion (SameSize output) (calls h)
  -- the memory has changed by accepted paints alone
  pub memory : now ≡ pixels start (calls h)
  -- while the output is on, the last picture stands on the glass
  pub glass : (model_after (length start) (calls h)).on ≡ true → (x y : ℕ) → x < output.width → y < output.height → pixel x y ≡ last_picture start (calls h) x y
  pub balance : AllByRecursion (Balanced (length start) h) (objects (length start) (calls h))
  pub settled : OfNewest (Settled (length start)) h
  pub once : AllByRecursion (AnsweredOnce (length start) h) (objects (length start) (calls h))
  pub first : OfNewest (λ e past. AllByRecursion (AnsweredFirst (length start) e past) (objects (length start) (calls h))) h
  pub values : OfNewest (λ e past. RightValues (length start) e.call (calls past) e.events) h
