-- Holds: how they end, and when a buffer is busy.
use Rattle.std.specs.Prelude.{ℕ, ◌+◌, Bool, cond, not, ◌&&◌, [], is_none, Some, None, fold, count_by, Option, option_and_then, ◌==◌}
use Rattle.rules.specs.declared.attach.Attach.{Attach}
use Rattle.rules.specs.declared.attach.Attach.TheVariants.{Buffer as Held}
use Rattle.rules.specs.declared.buffer.Buffer.{Buffer}
use Rattle.rules.specs.State.{Model, buffer_at}
use Rattle.rules.specs.Setters.{with_waiting, with_buffers}
use Rattle.rules.specs.Run.{Grow, Run, in_model, send_living, release}
use Rattle.rules.specs.Table.{some_and, records, each}

module _ {E : Type 0} (g : Grow E) where
  -- a hold of buffer b ends: a release, if the buffer's object lives
  abbrev pub end_hold : ℕ → Run E → Run E
  end_hold b r = let f = buffer_at r.model b in send_living g (release f.client) f.id r

  abbrev pub wait : ℕ → ℕ → Run E → Run E
  wait b mark r = in_model (λ m. with_waiting (g.waited m.waiting (record { buffer = b; mark = mark })) m) r

  abbrev pub end_cached : Attach → Run E → Run E
  end_cached (Held b) r = end_hold b r
  end_cached _ r = r

  -- a current hold ends: one on the glass waits instead
  abbrev pub end_current : Option ℕ → Option ℕ → Run E → Run E
  end_current None mark r = r
  end_current (Some b) None r = end_hold b r
  end_current (Some b) (Some mark) r = wait b mark r

  -- the waiting holds end, in the order in which they began to wait
  unfoldable pub end_waiting : Run E → Run E
  end_waiting r = in_model (with_waiting []) (fold (λ t w. end_hold w.buffer t) r r.model.waiting)

-- the hold that an attach brings
abbrev pub held : Attach → Option ℕ
held (Held b) = Some b
held _ = None

-- whether there is a hold, and it is of buffer b
abbrev pub is_of : ℕ → Option ℕ → Bool
is_of b hold = some_and (λ c. c == b) hold

-- how many holds of buffer b stand: cached, current and waiting
abbrev pub holds : Model → ℕ → ℕ
holds m b =
    let all = records m.surfaces in
    count_by (λ s. is_of b (held s.cached)) all + count_by (λ s. is_of b s.current.hold) all + count_by (λ w. w.buffer == b) m.waiting

abbrev pub busy : Model → ℕ → Bool
busy m b = not (holds m b == 0)

-- a record whose object has ended goes with its last hold
abbrev pub kept : Model → ℕ → Buffer → Option Buffer
kept m b f = cond (is_none f.id && not (busy m b)) None (Some f)

abbrev pub sweep : Model → Model
sweep m = with_buffers (each (λ b. option_and_then (kept m b)) m.buffers) m
