-- The requests that a kernel thread served: when each was begun, when it was answered, and for how
-- long it was worked at. A thread works at one request at a time, until it is served: so of the
-- turns at work since it served the one before, the first began it.
use Rattle.std.specs.Prelude.{ℕ, ◌+◌, ◌-◌, ◌^◌, min, ◌||◌, Bool, false, List, [], ◌∷◌}
use Rattle.std.specs.Prelude.{Option, Some, None, if◌then◌else◌}
use Rattle.std.specs.Option.{is_some, unwrap_or}
use Rattle.cal_policy.specs.History.Lists.{each_of}
use Rattle.cal_measure.specs.Ends.{ticks_of}
use Rattle.cal_measure.specs.declared.ends.TimedTurn.{TimedTurn}
use Rattle.cal_measure.specs.declared.services.Service.{Service}

-- one of these turns served a request
abbrev pub any_serves : List TimedTurn → Bool
any_serves [] = false
any_serves (turn ∷ turns) = is_some turn.served || any_serves turns

-- the turns after the last one that served a request: as long as one of them did, without the first
abbrev pub since_service : List TimedTurn → List TimedTurn
since_service [] = []
since_service (turn ∷ turns) =
    if any_serves (turn ∷ turns) then since_service turns else turn ∷ turns

-- the stamp of the first of these turns that worked
abbrev pub first_at_work : List TimedTurn → Option ℕ
first_at_work [] = None
first_at_work (turn ∷ turns) = if turn.at_work then Some turn.stamp else first_at_work turns

-- when the request that is at work after these turns was begun, if there is one
abbrev pub begun_since : List TimedTurn → Option ℕ
begun_since turns = first_at_work (since_service turns)

-- how long those of these turns lasted, together, that worked
abbrev pub worked_in : List TimedTurn → ℕ
worked_in [] = 0
worked_in (turn ∷ turns) = (if turn.at_work then ticks_of turn else 0) + worked_in turns

-- for how long the request that is at work after these turns was worked at
abbrev pub worked_since : List TimedTurn → ℕ
worked_since turns = worked_in (since_service turns)

-- so many ticks, up to the greatest clock. Turns of one thread do not overlap, so in a run there
-- are no more
abbrev pub clocked : ℕ → ℕ
clocked ticks = min ticks (2 ^ 64 - 1)

-- a request that was served, where one was
abbrev pub served_as : ℕ → ℕ → ℕ → Option ℕ → List Service
served_as begun answered worked None = []
served_as begun answered worked (Some id) = record {
  id = id;
  begun = begun;
  answered = answered;
  worked = worked;
} ∷ []

-- the request that a turn served, told the turns before it: it was answered when the turn ended; it
-- was begun before, or else in this very turn; and it was worked at in this turn too
abbrev pub service_by : List TimedTurn → TimedTurn → List Service
service_by before turn =
    served_as (unwrap_or (begun_since before) turn.stamp) turn.ends
    (clocked (worked_since before + ticks_of turn)) turn.served

-- the requests that were served in these turns
abbrev pub services_of : List TimedTurn → List Service
services_of turns = each_of service_by turns
