-- Why a call is refused.
use Rattle.std.specs.Prelude.{ℕ, List, ◌∷◌, ◌++◌, decimal}
use Rattle.model.specs.declared.fault.Fault.{Fault}
use Rattle.model.specs.declared.refusal.Refusal.{Refusal}
use Rattle.model.specs.declared.refusal.Refusal.TheVariants.{BadHeader, UnlistedOpcode, BadArguments, Dark, BadScene, NoSize}

-- the fault of that number, station and word
abbrev pub fault : ℕ → ℕ → ℕ → Fault
fault n s w = record { number = n; station = s; word = w }

-- the fault that a refusal is told as
abbrev pub fault_of : Refusal → Fault
fault_of BadHeader = fault 4 3 0
fault_of UnlistedOpcode = fault 6 3 1
fault_of BadArguments = fault 7 3 1
fault_of Dark = fault 17 9 0
fault_of BadScene = fault 18 9 0
fault_of NoSize = fault 19 9 0

-- the three numbers, with a space between them
abbrev pub fault_text : Fault → List ℕ
fault_text f = decimal f.number ++ (32 ∷ decimal f.station) ++ (32 ∷ decimal f.word)
