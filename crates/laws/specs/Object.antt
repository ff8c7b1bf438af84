-- The objects that were ever made. A client and an id name one object after another; what tells objects apart for good is the call that made them.
use Rattle.std.specs.Prelude.{ℕ, Bool, cond, List, [], ◌∷◌, ◌++◌, length, Ok, Err, Option, find, ◌==◌, nat_lt}
use Rattle.rules.specs.Table.{some_and}
use Rattle.rules.specs.Name.{bears}
use Rattle.rules.specs.State.{Model, surface_at}
use Rattle.rules.specs.Ask.{Found, create_surface, get_subsurface, ask_frame, asked}
use Rattle.rules.specs.Call.{Call, request_call, buffer_call}
use Rattle.laws.specs.History.{model_after, accepts}

-- a callback has the id of the surface on which it was asked for
pub data Kind : Type 0 where
  global : Kind
  surface : Kind
  subsurface : Kind
  buffer : Kind
  callback : (surface : ℕ) → Kind

-- an object that was made, ended or not: by which call, counted from 1; the globals are there before the first call and have 0
pub record Made : Type 0 where
  pub call : ℕ
  pub client : ℕ
  pub id : ℕ
  pub kind : Kind

abbrev pub made : ℕ → ℕ → ℕ → Kind → Made
made call client id kind = record { call = call; client = client; id = id; kind = kind }

abbrev pub globals_of : ℕ → List Made
globals_of client = made 0 client 1 global ∷ made 0 client 2 global ∷ made 0 client 3 global ∷ []

-- what a request makes, as call k
abbrev pub made_by_request : ℕ → Model → Found → List Made
made_by_request k m (create_surface client id) = made k client id surface ∷ []
made_by_request k m (get_subsurface client id s q) = made k client id subsurface ∷ []
made_by_request k m (ask_frame client p id) = made k client id (callback (surface_at m p).id) ∷ []
made_by_request k m _ = []

-- what an accepted call makes, as call k
abbrev pub made_by : ℕ → Call → Model → List Made
made_by k (request_call places client bytes) m =
    elim (asked places client bytes m) [ Ok found ↦ made_by_request k m found | Err fault ↦ [] ]
made_by k (buffer_call client id first width height stride format) m = made k client id buffer ∷ []
made_by k _ m = []

-- whether there is an object, and it is o
abbrev pub is_object : Made → Option Made → Bool
is_object o object = some_and (λ other. other.call == o.call) object

-- whether there is an object, and it is older than o
abbrev pub is_older : Made → Option Made → Bool
is_older o object = some_and (λ other. nat_lt other.call o.call) object

module _ (size : ℕ) where
  -- every object that was ever made, the newest first
  abbrev pub objects : List Call → List Made
  objects [] = globals_of 0 ++ globals_of 1 ++ globals_of 2 ++ globals_of 3
  objects (c ∷ cs) =
      cond (accepts size c cs) (made_by (length (c ∷ cs)) c (model_after size cs)) [] ++ objects cs

  -- the last object that was made with a client and an id
  abbrev pub last_object : List Call → ℕ → ℕ → Option Made
  last_object cs client id = find (λ o. bears client id o.client o.id) (objects cs)

  -- whether no object was made with the client and id of o since o
  abbrev pub is_last : Made → List Call → Bool
  is_last o cs = is_object o (last_object cs o.client o.id)
