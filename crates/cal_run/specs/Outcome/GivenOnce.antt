-- Each id that is given stands in one place.
use Rattle.std.specs.Prelude.{◌≡◌, ◌<◌, ℕ, [], length}
use Rattle.cal_machine.specs.Table.{Table}
use Rattle.cal_machine.specs.TableTasks.{threads_of_table}
use Rattle.cal_kthread.specs.End.Account.{IsAccounted}
use Rattle.cal_kthread.specs.Turn.Turns.{AreTurns}
use Rattle.cal_linear.specs.Steps.{journal_at}
use Rattle.cal_trace.specs.Arrivals.FitsTable.{FitsTable}
use Rattle.cal_trace.specs.declared.arrivals.Arrivals.{Arrivals}
use Rattle.cal_run.specs.Workers.GivenTurns.{turns_given}
use Rattle.cal_run.specs.Outcome.{EachStandsOnce}
use Rattle.cal_run.specs.declared.outcome.Outcome.{Outcome}

-- Where the arrivals fit the table, each thread made the turns that it was given, and the account
-- holds, each id that was given is in exactly one place, and no other id anywhere.
abbrev pub GivenStandOnce : Type 0
GivenStandOnce = (table : Table) (arrivals : Arrivals) (outcome : Outcome)
    → FitsTable table arrivals
    → (length outcome.journals ≡ threads_of_table table)
    → ((k : ℕ) → k < threads_of_table table
    → AreTurns (turns_given arrivals.requests arrivals.turns k) [] (journal_at outcome.journals k))
    → IsAccounted outcome.journals outcome.left
    → EachStandsOnce arrivals outcome
