-- When turns end, and how long they last. A turn takes its time: what it did goes on until its
-- thread's next turn.
use Rattle.std.specs.Prelude.{ℕ, ◌+◌, ◌-◌, max, List, [], ◌∷◌, length, slice_get}
use Rattle.std.specs.Prelude.{Option, Some, None}
use Rattle.cal_measure.specs.Joined.{joined_below}
use Rattle.cal_measure.specs.declared.ends.TimedTurn.{TimedTurn}
use Rattle.cal_measure.specs.declared.turns.Turn.{Turn}

-- when a turn ends, told its thread's next one: at the clock of that; where there is none, at the
-- run's last clock, or at its own if that is later
abbrev pub end_of : ℕ → Turn → Option Turn → ℕ
end_of last turn None = max turn.stamp last
end_of last turn (Some next) = next.stamp

-- a turn with its end, where there is one
abbrev pub timed_by : ℕ → Option Turn → Option Turn → List TimedTurn
timed_by last None next = []
timed_by last (Some turn) next = record {
  served = turn.served;
  stamp = turn.stamp;
  ends = end_of last turn next;
  at_work = turn.at_work;
} ∷ []

-- the turn at place i with its end
abbrev pub timed_at : ℕ → List Turn → ℕ → List TimedTurn
timed_at last turns i = timed_by last (slice_get turns i) (slice_get turns (i + 1))

-- the turns of a thread, in a run with this last clock, each with its end
abbrev pub timed_of : ℕ → List Turn → List TimedTurn
timed_of last turns = joined_below (timed_at last turns) (length turns)

-- how long a turn lasts
abbrev pub ticks_of : TimedTurn → ℕ
ticks_of turn = turn.ends - turn.stamp
