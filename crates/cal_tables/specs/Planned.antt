-- Runs by a plan, measured, and why there are none.
use Rattle.std.specs.Prelude.{◌≡◌, ⊤, List, Option, Some, None, Result, Ok, Err}
use Rattle.cal_came.specs.declared.counted.Counted.{Counted}
use Rattle.cal_input.specs.Answers.{Decided, Failed}
use Rattle.cal_input.specs.declared.fault.RunFault.TheVariants.{Memory, Write}
use Rattle.cal_input.specs.declared.fault.RunFault.{RunFault}
use Rattle.cal_kthread.specs.declared.journal.entry.Entry.{Entry}
use Rattle.cal_machine.specs.Table.{Table}
use Rattle.cal_machine.specs.declared.request.Request.{Request}
use Rattle.cal_paced.specs.Paced.{IsPacedRunOf}
use Rattle.cal_paced.specs.Planned.{AreGivenFor, ArePlannedOf, IsPlanFault, MayBePlanned}
use Rattle.cal_paced.specs.declared.fault.PaceFault.TheVariants as paces
use Rattle.cal_paced.specs.declared.fault.PaceFault.{PaceFault}
use Rattle.cal_paced.specs.declared.plan.Plan.{Plan}
use Rattle.cal_policy.specs.declared.history.entry.PassEntry.{PassEntry}
use Rattle.cal_policy.specs.declared.policy.Policy.{Policy}
use Rattle.cal_run.specs.Outcome.{IsRunBy}
use Rattle.cal_run.specs.declared.outcome.Outcome.{Outcome}
use Rattle.cal_tables.specs.Asked.{of_history, of_run, Subject}
use Rattle.cal_tables.specs.Measured.{AreRunNumbers, IsCountedRun}
use Rattle.cal_tables.specs.declared.measuring.RunNumbers.{RunNumbers}
use Rattle.cal_tables.specs.declared.planned.PlannedFault.TheVariants.{Pace, Run}
use Rattle.cal_tables.specs.declared.planned.PlannedFault.{PlannedFault}
use Rattle.cal_trace.specs.declared.arrivals.Arrivals.{Arrivals}

-- a run by the policy and the plan on these arrivals, which may be made, came to some outcome, and
-- these are the numbers of it, counted so, over what its passes and turns were given
pub record IsCountedPaced (plan : Plan) (policy : Policy) (table : Table) (arrivals : Arrivals)
    (counted : Counted) (numbers : RunNumbers) : Type 0 where
  pub may : MayBePlanned plan arrivals
  pub given : Arrivals
  pub outcome : Outcome
  pub run : IsPacedRunOf policy table plan arrivals given outcome
  pub are : AreRunNumbers table given counted outcome numbers

-- these are the numbers of a run by the plan, or in lockstep where there is none, counted so
abbrev pub IsCountedBy : Option Plan → Policy → Table → Arrivals → Counted → RunNumbers → Type 0
IsCountedBy None policy table arrivals counted numbers =
    IsCountedRun policy table arrivals counted numbers
IsCountedBy (Some plan) policy table arrivals counted numbers =
    IsCountedPaced plan policy table arrivals counted numbers

-- what a run on these arrivals is given: by a plan, paced arrivals; in lockstep, the same
abbrev pub ArePlannedBy : Option Plan → Arrivals → Arrivals → Type 0
ArePlannedBy None arrivals given = given ≡ arrivals
ArePlannedBy (Some plan) arrivals given = ArePlannedOf plan arrivals given

abbrev pub AreGivenBy : Option Plan → Arrivals → Type 0
AreGivenBy None given = ⊤
AreGivenBy (Some plan) given = AreGivenFor plan given

-- a run by the policy on these arrivals, by the plan or in lockstep, whose passes and turns were
-- given these, came to this outcome
abbrev pub IsRunGiven : Option Plan → Policy → Table → Arrivals → Arrivals → Outcome → Type 0
IsRunGiven None policy table arrivals given outcome =
    (given ≡ arrivals) × IsRunBy policy table arrivals outcome
IsRunGiven (Some plan) policy table arrivals given outcome =
    MayBePlanned plan arrivals × IsPacedRunOf policy table plan arrivals given outcome

-- such a run came to some outcome, of whose history and journals this holds, and of which this
-- remained
pub record IsCollectedBy (plan : Option Plan) (policy : Policy)
    (holds : List PassEntry → List (List Entry) → Type 0) (table : Table)
    (arrivals given : Arrivals) (remaining : List (List Request)) : Type 0 where
  pub outcome : Outcome
  pub run : IsRunGiven plan policy table arrivals given outcome
  pub collected : holds outcome.history outcome.journals
  pub left : outcome.left ≡ remaining

-- the fault of arrivals that are refused for a plan, or of memory
abbrev pub fault_of_plan : PaceFault → PlannedFault
fault_of_plan paces.Memory = Run Memory
fault_of_plan fault = Pace fault

-- memory was refused, or the arrivals were, for this reason
abbrev pub IsFaultOfPlan : Plan → Arrivals → PlannedFault → Type 0
IsFaultOfPlan plan arrivals (Run fault) = fault ≡ Memory
IsFaultOfPlan plan arrivals (Pace fault) = IsPlanFault plan arrivals fault

-- the fault of a run by the plan, or in lockstep where there is none
abbrev pub IsFaultBy : Option Plan → Arrivals → PlannedFault → Type 0
IsFaultBy None arrivals fault = fault ≡ Run Memory
IsFaultBy (Some plan) arrivals fault = IsFaultOfPlan plan arrivals fault

-- a run on these arrivals can go by the plan, or is in lockstep
abbrev pub MayGoBy : Option Plan → Arrivals → Type 0
MayGoBy None arrivals = ⊤
MayGoBy (Some plan) arrivals = MayBePlanned plan arrivals

-- why there is no run by the plan on these arrivals
abbrev pub IsPaceFaultOf : Option Plan → Arrivals → PaceFault → Type 0
IsPaceFaultOf None arrivals fault = ⊥
IsPaceFaultOf (Some plan) arrivals fault = IsPlanFault plan arrivals fault

-- what is asked for are arrivals on which there is a run, or a history
abbrev pub MayRunBy : Option Plan → Result Subject RunFault → Type 0
MayRunBy plan (Err fault) = ⊥
MayRunBy plan (Ok (of_history run)) = ⊤
MayRunBy plan (Ok (of_run input)) = MayGoBy plan input.arrivals

-- they are arrivals on which there is no run, for this reason
abbrev pub IsRefusedBy : Option Plan → Result Subject RunFault → PaceFault → Type 0
IsRefusedBy plan (Err fault) reason = ⊥
IsRefusedBy plan (Ok (of_history run)) reason = ⊥
IsRefusedBy plan (Ok (of_run input)) reason = IsPaceFaultOf plan input.arrivals reason

-- what a fault says of what is asked for, before anything is written
abbrev pub DecidedBy : Option Plan → PlannedFault → Result Subject RunFault → Type 0
DecidedBy plan (Run fault) asked = Decided fault (asked ≡ Err fault)
DecidedBy plan (Pace fault) asked = IsRefusedBy plan asked fault

-- and in the end: where the writer failed there is something to write
abbrev pub FailedBy : Option Plan → PlannedFault → Result Subject RunFault → Type 0
FailedBy plan (Run Write) asked = MayRunBy plan asked
FailedBy plan (Run fault) asked = Failed fault asked
FailedBy plan (Pace fault) asked = IsRefusedBy plan asked fault
