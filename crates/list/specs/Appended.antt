-- What a list that appends has done between two moments.
use Rattle.std.specs.Prelude.{◌≡◌, ℕ, ◌+◌, ◌-◌, min, List, length}
use lib.Seq.{sets}
use Rattle.list.specs.declared.appender.Appender.{Appender}

module _ {T : Type 0} where
  -- how many more it can take
  abbrev pub room : Appender T → ℕ
  room a = length a.places.now - a.count

  -- after is the list before with xs pushed, each as far as there was room; the same lender gets the places back
  pub record Appended (before after : Appender T) (xs : List T) : Type 0 where
    pub count : after.count ≡ before.count + min (length xs) (room before)
    pub places : after.places.now ≡ sets before.places.now before.count xs
    pub lender : after.places.ghost_name ≡ before.places.ghost_name
