-- The law of pace 1: where the passes of a file stand as pace 1 has them, a run by the plan that
-- slows nobody is a run on that file, as one in lockstep is.
use Rattle.std.specs.Prelude.{◌≡◌, ℕ}
use Rattle.cal_kthread.specs.Turn.Thread.{KernelView}
use Rattle.cal_machine.specs.Table.{Table}
use Rattle.cal_policy.specs.declared.policy.Policy.{Policy}
use Rattle.cal_run.specs.Outcome.{IsRunBy}
use Rattle.cal_run.specs.declared.outcome.Outcome.{Outcome}
use Rattle.cal_trace.specs.declared.arrivals.Arrivals.{Arrivals}
use Rattle.cal_paced.specs.Pace.{StandEvenly}
use Rattle.cal_paced.specs.Paced.{IsPacedRunBy}
use Rattle.cal_paced.specs.Shares.{share}
use Rattle.cal_paced.specs.declared.plan.TheConstants.{WHOLE}
use Rattle.cal_paced.specs.declared.plan.TheConstants.Plan.{NEUTRAL}
use Rattle.std.specs.Prelude.{List}

abbrev pub AtPaceOneIsRun : Type 0
AtPaceOneIsRun = (policy : Policy) (table : Table) (arrivals : Arrivals) (outcome : Outcome) →
    StandEvenly 1 arrivals.turns arrivals.passes →
    IsPacedRunBy policy table NEUTRAL arrivals outcome → IsRunBy policy table arrivals outcome

-- and nobody is slowed: each share is a whole turn's work
abbrev pub NeutralSharesAreWhole : Type 0
NeutralSharesAreWhole = (threads : List KernelView) (k : KernelView) (core : ℕ) →
    share NEUTRAL threads k core ≡ WHOLE
