-- What an input that is measured asks for, and what is answered.
use Rattle.std.specs.Prelude.{◌≡◌, ◌||◌, Bool, Result, Ok, Err}
use Rattle.std.specs.Option.{is_some}
use Rattle.cal_came.specs.Asked.{is_asked, IsCountedAs, IsCountFault}
use Rattle.cal_came.specs.declared.asked.CountAsked.{CountAsked}
use Rattle.cal_came.specs.declared.asked.CountFault.{CountFault}
use Rattle.cal_came.specs.declared.asked.CountFault.TheVariants as counts
use Rattle.cal_came.specs.declared.asked.CountedRequests.{CountedRequests}
use Rattle.cal_input.specs.Answers.{Decided, Failed}
use Rattle.cal_input.specs.declared.fault.RunFault.TheVariants.{Memory, Write}
use Rattle.cal_input.specs.declared.fault.RunFault.{RunFault}
use Rattle.cal_machine.specs.Table.{Table}
use Rattle.cal_policy.specs.Policies.{IsVerdictBy}
use Rattle.cal_policy.specs.declared.verdict.Verdict.{Verdict}
use Rattle.cal_policy.specs.declared.verdict.Verdict.TheVariants.{Legal}
use Rattle.cal_tables.specs.Asked.{asked_by, of_history, of_run, Subject}
use Rattle.cal_tables.specs.Planned.{IsPaceFaultOf, MayGoBy}
use Rattle.cal_tables.specs.declared.asked_fault.AskedFault.{AskedFault}
use Rattle.cal_tables.specs.declared.asked_fault.AskedFault.TheVariants.{Count, Pace, Run}
use Rattle.cal_tables.specs.declared.measuring.MeasuredInput.{MeasuredInput}
use Rattle.cal_tables.specs.declared.planned.PlannedFault.{PlannedFault}
use Rattle.cal_tables.specs.declared.planned.PlannedFault.TheVariants as planned
use Rattle.cal_trace.specs.declared.arrivals.Arrivals.{Arrivals}

-- the fault of a run by a plan; and of requests that cannot be counted, or of memory
abbrev pub fault_of_planned : PlannedFault → AskedFault
fault_of_planned (planned.Run fault) = Run fault
fault_of_planned (planned.Pace fault) = Pace fault

abbrev pub fault_of_count : CountFault → AskedFault
fault_of_count counts.Memory = Run Memory
fault_of_count fault = Count fault

-- a run on arrivals alone is asked for: by a plan, or to count its requests
abbrev pub is_of_run : MeasuredInput → Bool
is_of_run asked = is_some asked.plan || is_asked asked.counting

-- what is asked for
abbrev pub asked_for : MeasuredInput → Result Subject RunFault
asked_for asked = asked_by (is_of_run asked) asked.bytes.now

-- the requests of these arrivals can be counted so
pub record MayBeCounted (asked : CountAsked) (table : Table) (arrivals : Arrivals) : Type 0 where
  pub told : CountedRequests
  pub counted : IsCountedAs asked table arrivals told

-- a run on these arrivals can be made and counted as it is asked for
pub record MayBeMeasured (asked : MeasuredInput) (table : Table) (arrivals : Arrivals) :
    Type 0 where
  pub counts : MayBeCounted asked.counting table arrivals
  pub goes : MayGoBy asked.plan arrivals

-- the verdict on what is asked for: a run is legal, on a history it is the audit's
abbrev pub IsVerdictOn : MeasuredInput → Verdict → Subject → Type 0
IsVerdictOn asked verdict (of_run input) =
    (verdict ≡ Legal) × MayBeMeasured asked input.table input.arrivals
IsVerdictOn asked verdict (of_history run) =
    IsVerdictBy asked.policy run.table run.history verdict

abbrev pub IsVerdictFor : MeasuredInput → Verdict → Result Subject RunFault → Type 0
IsVerdictFor asked verdict (Err f) = ⊥
IsVerdictFor asked verdict (Ok subject) = IsVerdictOn asked verdict subject

-- why there are no numbers of a run on these arrivals
abbrev pub IsRefusedOn : MeasuredInput → Table → Arrivals → AskedFault → Type 0
IsRefusedOn asked table arrivals (Run fault) = fault ≡ Memory
IsRefusedOn asked table arrivals (Pace fault) = IsPaceFaultOf asked.plan arrivals fault
IsRefusedOn asked table arrivals (Count fault) = IsCountFault asked.counting table arrivals fault

abbrev pub IsRefusedOf : MeasuredInput → AskedFault → Result Subject RunFault → Type 0
IsRefusedOf asked fault (Err f) = ⊥
IsRefusedOf asked fault (Ok (of_history run)) = ⊥
IsRefusedOf asked fault (Ok (of_run input)) = IsRefusedOn asked input.table input.arrivals fault

-- what a fault says of what is asked for, before anything is written
abbrev pub DecidedFor : MeasuredInput → AskedFault → Result Subject RunFault → Type 0
DecidedFor asked (Run fault) subject = Decided fault (subject ≡ Err fault)
DecidedFor asked (Pace fault) subject = IsRefusedOf asked (Pace fault) subject
DecidedFor asked (Count fault) subject = IsRefusedOf asked (Count fault) subject

-- and in the end: where the writer failed there is something to write
abbrev pub FailedFor : MeasuredInput → AskedFault → Result Subject RunFault → Type 0
FailedFor asked (Run Write) subject = IsVerdictFor asked Legal subject
FailedFor asked (Run fault) subject = Failed fault subject
FailedFor asked fault subject = DecidedFor asked fault subject

-- the verdict is that on what is asked for, or the fault says what it must of it
abbrev pub JudgesAs : MeasuredInput → Result Verdict AskedFault → Type 0
JudgesAs asked (Ok verdict) = IsVerdictFor asked verdict (asked_for asked)
JudgesAs asked (Err fault) = FailedFor asked fault (asked_for asked)
