-- The history of a run.
use Rattle.std.specs.Prelude.{◌≡◌, List, Option, Result, Ok, Err}
use Rattle.cal_input.specs.Parts.{RunInput}
use Rattle.cal_input.specs.declared.fault.RunFault.{RunFault}
use Rattle.cal_machine.specs.Table.{Table}
use Rattle.cal_paced.specs.declared.plan.Plan.{Plan}
use Rattle.cal_policy.specs.declared.history.entry.PassEntry.{PassEntry}
use Rattle.cal_policy.specs.declared.policy.Policy.{Policy}
use Rattle.cal_run.specs.declared.outcome.Outcome.{Outcome}
use Rattle.cal_tables.specs.Planned.{IsRunGiven}
use Rattle.cal_trace.specs.declared.arrivals.Arrivals.{Arrivals}
use Rattle.cal_facts.specs.declared.histories.RunHistory.{RunHistory}

-- a run on these arrivals, by the plan or in lockstep, came to some outcome, and this is its history
pub record IsHistoryOfRun (plan : Option Plan) (policy : Policy) (table : Table)
    (arrivals : Arrivals) (passes : List PassEntry) : Type 0 where
  pub given : Arrivals
  pub outcome : Outcome
  pub run : IsRunGiven plan policy table arrivals given outcome
  pub are : passes ≡ outcome.history

-- there are arrivals, and this is the history of a run on them, with their table
abbrev pub IsAskedHistory : Option Plan → Policy → Result RunInput RunFault → RunHistory → Type 0
IsAskedHistory plan policy (Err f) is = ⊥
IsAskedHistory plan policy (Ok input) is = (is.config ≡ input.table)
    × IsHistoryOfRun plan policy input.table input.arrivals is.passes.items
