-- Buffers: the commits that carried one, and where its record is.
use Rattle.std.specs.Prelude.{ℕ, ◌+◌, Bool, cond, ◌&&◌, List, [], ◌∷◌, None, Option, option_and_then}
use Rattle.std.specs.Option.{option_or}
use Rattle.std.specs.Result.{result_ok}
use Rattle.rules.specs.Table.{some_and}
use Rattle.rules.specs.State.{Model, surface_at, buffer_at}
use Rattle.rules.specs.Hold.{held}
use Rattle.rules.specs.Name.{the_buffer}
use Rattle.rules.specs.Ask.{Found, commit_surface, asked}
use Rattle.rules.specs.Call.{Call, request_call}
use Rattle.laws.specs.History.{model_after, accepts}
use Rattle.laws.specs.Object.{Made, is_object, last_object, is_last}

-- the buffer, by the place of its record, that a request carries: a commit carries that of its surface's pending attach
abbrev pub carried_by_request : Model → Found → Option ℕ
carried_by_request m (commit_surface p) = held (surface_at m p).pending.attach
carried_by_request m _ = None

abbrev pub carried_by : Call → Model → Option ℕ
carried_by (request_call places client bytes) m = option_and_then (carried_by_request m) (result_ok (asked places client bytes m))
carried_by _ m = None

module _ (size : ℕ) where
  -- whether the record at a place, if there is one, is that of o
  abbrev pub is_record : Made → List Call → Option ℕ → Bool
  is_record o cs place =
      some_and (λ b. let f = buffer_at (model_after size cs) b in is_object o (option_and_then (last_object size cs f.client) f.id)) place

  -- how many accepted commits carried the buffer o
  abbrev pub commits : Made → List Call → ℕ
  commits o [] = 0
  commits o (c ∷ cs) =
      cond (accepts size c cs && is_record o cs (carried_by c (model_after size cs))) 1 0 + commits o cs

  -- the place of the record of the buffer o, while the object lives
  abbrev pub record_place : Made → List Call → Option ℕ
  record_place o cs =
      cond (is_last size o cs) (result_ok (the_buffer (model_after size cs) o.client 0 o.id)) None

  -- the same from the call that made o to the one that destroyed it, that one included: o lives before the newest call or after it
  abbrev pub counted_place : Made → List Call → Option ℕ
  counted_place o [] = None
  counted_place o (c ∷ cs) = option_or (record_place o cs) (record_place o (c ∷ cs))
