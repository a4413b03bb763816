-- The replay of a run by a plan, as far as it was made.
use Rattle.std.specs.Prelude.{◌≡◌, ◌*◌, ℕ, List, length, replicate, take}
use Rattle.cal_machine.specs.Table.{Table}
use Rattle.cal_paced.specs.Making.{AreAllCores, AreBelowWhole}
use Rattle.cal_paced.specs.Paced.{SlowsNobody}
use Rattle.cal_paced.specs.declared.plan.Plan.{Plan}
use Rattle.cal_paced.specs.declared.rounds.Keeping.{Keeping}
use Rattle.cal_policy.specs.declared.history.entry.PassEntry.{PassEntry}
use Rattle.cal_trace.specs.declared.arrivals.Arrivals.{Arrivals}
use Rattle.cal_replay.specs.Parts.{AreGivenPasses, AreReplayParts}
use Rattle.cal_replay.specs.declared.ending.ReplayParts.{ReplayParts}

-- the first n rounds were made: so many passes to each, and one turn of each thread
pub record ArePacedUpTo (n : ℕ) (plan : Plan) (table : Table) (given : Arrivals)
    (history : List PassEntry) (made : ReplayParts) (keeping : Keeping) : Type 0 where
  pub parts : AreReplayParts table given (take (plan.pace * n) history) n made
  pub passes : AreGivenPasses given (plan.pace * n) (take (plan.pace * n) history)
  -- what each thread has left over is below a turn's whole work; where nobody is slowed it is
  -- nothing
  pub kept : length keeping.saved.items ≡ length made.workers.items
  pub below : AreBelowWhole keeping.saved.items
  pub cores : AreAllCores keeping.all
  pub nothing : SlowsNobody plan → keeping.saved.items ≡ replicate (length made.workers.items) 0
