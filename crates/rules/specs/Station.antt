-- Checks in their order: the first fault stands.
use Rattle.std.specs.Prelude.{Bool, cond, Ok, Err, Result}
use Rattle.model.specs.declared.fault.Fault.{Fault}

infixl 20 ◌>>=◌
-- what follows a check gets its value; a fault is the answer
abbrev pub ◌>>=◌ : {A B : Type 0} → Result A Fault → (A → Result B Fault) → Result B Fault
◌>>=◌ (Ok a) next = next a
◌>>=◌ (Err f) next = Err f

-- refused exactly if the test holds
abbrev pub refuse_if : Bool → Fault → Result (Unit {0}) Fault
refuse_if bad f = cond bad (Err f) (Ok tt)
