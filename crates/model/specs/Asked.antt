-- Requests in numbers, so that what was asked can be said without the type that the code has for it.
use Rattle.std.specs.Prelude.{ℕ, Bool, cond, List, [], ◌∷◌, Some, None, Ok, Err, Option, Result, ◌==◌}
use Rattle.model.specs.declared.fault.Fault.{Fault}
use Rattle.model.specs.declared.interface.Interface.{Interface}
use Rattle.model.specs.declared.interface.Interface.TheVariants.{Display, Compositor, Subcompositor, Surface, Subsurface, Buffer, Callback}
use Rattle.model.specs.declared.request.Request.{Request}
use Rattle.model.specs.declared.request.Request.TheVariants.{CreateSurface, GetSubsurface, SurfaceDestroy, Attach, Damage, Frame, Commit, SubsurfaceDestroy, SetPosition, PlaceAbove, PlaceBelow, SetSync, SetDesync, BufferDestroy}
use Rattle.model.specs.Word.{int_word}
use Rattle.model.specs.Request.{exactly, fitting, unlisted}

-- a request in numbers: the interface that lists it, its opcode there, and its arguments as words
pub record NumberedRequest : Type 0 where
  pub interface : Interface
  pub opcode : ℕ
  pub arguments : List ℕ

abbrev pub numbered : Interface → ℕ → List ℕ → NumberedRequest
numbered i o args = record { interface = i; opcode = o; arguments = args }

-- the word that stands for an id or none
abbrev pub id_word : Option ℕ → ℕ
id_word None = 0
id_word (Some n) = n

abbrev pub numbers : Request → NumberedRequest
numbers (CreateSurface n) = numbered Compositor 0 (n ∷ [])
numbers (GetSubsurface n s p) = numbered Subcompositor 1 (n ∷ s ∷ p ∷ [])
numbers SurfaceDestroy = numbered Surface 0 []
numbers (Attach b x y) = numbered Surface 1 (id_word b ∷ int_word x ∷ int_word y ∷ [])
numbers (Damage x y w h) = numbered Surface 2 (int_word x ∷ int_word y ∷ int_word w ∷ int_word h ∷ [])
numbers (Frame n) = numbered Surface 3 (n ∷ [])
numbers Commit = numbered Surface 6 []
numbers SubsurfaceDestroy = numbered Subsurface 0 []
numbers (SetPosition x y) = numbered Subsurface 1 (int_word x ∷ int_word y ∷ [])
numbers (PlaceAbove s) = numbered Subsurface 2 (s ∷ [])
numbers (PlaceBelow s) = numbered Subsurface 3 (s ∷ [])
numbers SetSync = numbered Subsurface 4 []
numbers SetDesync = numbered Subsurface 5 []
numbers BufferDestroy = numbered Buffer 0 []

abbrev pub in_numbers : Result Request Fault → Result NumberedRequest Fault
in_numbers (Ok r) = Ok (numbers r)
in_numbers (Err f) = Err f

-- the opcodes that an interface lists, each with the test that its arguments have to pass
abbrev pub opcodes : Interface → List (ℕ × (List ℕ → Bool))
opcodes Display = []
opcodes Compositor = (0, exactly 1) ∷ []
opcodes Subcompositor = (1, exactly 3) ∷ []
opcodes Surface = (0, exactly 0) ∷ (1, exactly 3) ∷ (2, exactly 4) ∷ (3, exactly 1) ∷ (6, exactly 0) ∷ []
opcodes Subsurface =
    (0, exactly 0) ∷ (1, exactly 2) ∷ (2, exactly 1) ∷ (3, exactly 1) ∷ (4, exactly 0) ∷ (5, exactly 0) ∷ []
opcodes Buffer = (0, exactly 0) ∷ []
opcodes Callback = []

-- the answer to an opcode and its arguments, by a list of opcodes
abbrev pub listed : List (ℕ × (List ℕ → Bool)) → NumberedRequest → Result NumberedRequest Fault
listed [] n = unlisted
listed (entry ∷ entries) n =
    cond (n.opcode == entry.0) (fitting (entry.1 n.arguments) n) (listed entries n)

-- what was asked, in numbers
abbrev pub asked : Interface → ℕ → List ℕ → Result NumberedRequest Fault
asked i o args = listed (opcodes i) (numbered i o args)
