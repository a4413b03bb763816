-- The parts of a replay: what makes its passes, its kernel threads, and the other ends of the
-- threads' pages.
use Rattle.std.specs.Prelude.{◌≡◌, ℕ, List, length, map, min, take}
use Rattle.cal_kthread.specs.Team.{IsTeam}
use Rattle.cal_machine.specs.Table.{Table}
use Rattle.cal_machine.specs.TableTasks.{threads_of_table}
use Rattle.cal_policy.specs.declared.history.entry.PassEntry.{PassEntry}
use Rattle.cal_run.specs.Closing.{AreOtherEnds}
use Rattle.cal_run.specs.Outcome.{figures_of}
use Rattle.cal_run.specs.Workers.{HaveMade, Seat, pages_of_seats, rings_of_seats, seats_of}
use Rattle.cal_trace.specs.declared.arrivals.Arrivals.{Arrivals}
use Rattle.cal_replay.specs.Passes.{HasReplayed}
use Rattle.cal_replay.specs.declared.ending.ReplayParts.{ReplayParts}

-- the first p passes of those given have the clocks and the figures of these
abbrev pub AreGivenPasses : Arrivals → ℕ → List PassEntry → Type 0
AreGivenPasses arrivals p history = map figures_of history ≡ take p arrivals.passes

-- these are of one team, of which these passes were replayed and the first j turns of each thread
-- are made
pub record AreReplayParts (table : Table) (arrivals : Arrivals) (history : List PassEntry) (j : ℕ)
    (parts : ReplayParts) : Type 0 where
  pub replayed : HasReplayed table history parts.replayer
  pub turns : HaveMade arrivals j parts.workers.items
  pub threads : length parts.workers.items ≡ threads_of_table table
  pub others : AreOtherEnds (pages_of_seats (seats_of parts.workers.items))
      (rings_of_seats (seats_of parts.workers.items)) parts.replayer.observers.items
      parts.watch.observers parts.replayer.senders.items
  pub team : IsTeam (map (λ (s : Seat). s.place) (seats_of parts.workers.items))

-- the first n rounds of lockstep were made
pub record AreReplayedUpTo (table : Table) (arrivals : Arrivals) (history : List PassEntry) (n : ℕ)
    (made : ReplayParts) : Type 0 where
  pub parts : AreReplayParts table arrivals (take (min n (length arrivals.passes)) history)
      (min n (length arrivals.turns)) made
  pub given : AreGivenPasses arrivals (min n (length arrivals.passes))
      (take (min n (length arrivals.passes)) history)
