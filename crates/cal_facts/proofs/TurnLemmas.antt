-- The turns at work of a run that is asked for.
use Rattle.cal_facts.proofs.Common.{ℕ, List, Option, Result, Ok, Err, ap, RunInput, RunFault, Table, may_go, asked_run, IsAskedTurns, IsTurnsText, AreTurnsOfRun, text_of_turns, WorkTurn}
use Rattle.cal_paced.specs.declared.plan.Plan.{Plan}
use Rattle.cal_policy.specs.declared.policy.Policy.{Policy}
use Rattle.cal_tables.specs.Planned.{MayRunBy}
use Rattle.cal_trace.specs.declared.arrivals.Arrivals.{Arrivals}

-- where there is a text of turns, there is a run
pub turns_may : (plan : Option Plan) (policy : Policy) (input : Result RunInput RunFault) (written : List ℕ) → IsAskedTurns plan policy input written → MayRunBy plan (asked_run input)
turns_may plan policy (Err f) written h = absurd h
turns_may plan policy (Ok input) written h = may_go plan policy input.table input.arrivals h.given h.outcome h.run

-- the text of those of a run
pub turns_written : (plan : Option Plan) (policy : Policy) (table : Table) (arrivals : Arrivals) (works : List WorkTurn) → AreTurnsOfRun plan policy table arrivals works
    → IsTurnsText plan policy (record { table = table; arrivals = arrivals }) (text_of_turns table works)
turns_written plan policy table arrivals works of = record {
  given = of.given;
  outcome = of.outcome;
  run = of.run;
  same = ap (λ (l : List WorkTurn). text_of_turns table l) of.are;
}
