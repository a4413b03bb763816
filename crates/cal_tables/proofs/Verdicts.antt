-- What an input asks for, and what is said of it.
use Rattle.cal_tables.proofs.Common.{◌≡◌, ◌∙◌, ℕ, List, Option, Some, None, Result, Ok, Err, refl, sym, ap, subst, Table, Arrivals, asked_in, asked_of, asked_on, asked_run, of_run, Subject, IsCountedBy, IsFaultBy, MayGoBy}
use Rattle.cal_came.specs.Asked.{IsCountFault}
use Rattle.cal_came.specs.declared.asked.CountFault.{CountFault}
use Rattle.cal_came.specs.declared.asked.CountFault.TheVariants as counts
use Rattle.cal_came.specs.declared.counted.Counted.{Counted}
use Rattle.cal_input.specs.Answers.{Decided}
use Rattle.cal_input.specs.Parts.{parts_of, run_input_of}
use Rattle.cal_input.specs.declared.fault.RunFault.{RunFault}
use Rattle.cal_input.specs.declared.fault.RunFault.TheVariants as faults
use Rattle.cal_input.proofs.Refusals.{run_decided}
use Rattle.cal_paced.specs.declared.plan.Plan.{Plan}
use Rattle.cal_policy.specs.declared.policy.Policy.{Policy}
use Rattle.cal_tables.specs.Asked.{arrivals_in}
use Rattle.cal_tables.specs.Measuring.{DecidedFor, FailedFor, IsRefusedOn, fault_of_count, fault_of_planned}
use Rattle.cal_tables.specs.declared.asked_fault.AskedFault.{AskedFault}
use Rattle.cal_tables.specs.declared.asked_fault.AskedFault.TheVariants.{Count, Pace, Run}
use Rattle.cal_tables.specs.declared.measuring.MeasuredInput.{MeasuredInput}
use Rattle.cal_tables.specs.declared.measuring.RunNumbers.{RunNumbers}
use Rattle.cal_tables.specs.declared.planned.PlannedFault.{PlannedFault}
use Rattle.cal_tables.specs.declared.planned.PlannedFault.TheVariants as planned

-- what an input of these parts asks for
pub asked_parts : (input : List ℕ) (table : Table) (trace : List ℕ) → parts_of input ≡ Ok (record { table = table; trace = trace })
    → asked_of input ≡ asked_on table trace (arrivals_in table trace)
asked_parts input table trace parts = ap asked_in parts

pub run_asked : (input : List ℕ) (table : Table) (trace : List ℕ) (arrivals : Arrivals) → parts_of input ≡ Ok (record { table = table; trace = trace })
    → arrivals_in table trace ≡ Ok arrivals → asked_of input ≡ Ok (of_run (record { table = table; arrivals = arrivals }))
run_asked input table trace arrivals parts told = asked_parts input table trace parts ∙ ap (asked_on table trace) told

-- a fault of a part is the input's, and so is that of its arrivals
pub refused_parts : (input : List ℕ) (f : RunFault) → Decided f (parts_of input ≡ Err f) → Decided f (asked_of input ≡ Err f)
refused_parts input f h = run_decided f (parts_of input ≡ Err f) (asked_of input ≡ Err f) (λ e. ap asked_in e) h

pub refused_run : (input : List ℕ) (f : RunFault) → Decided f (run_input_of input ≡ Err f) → Decided f (asked_run (run_input_of input) ≡ Err f)
refused_run input f h = run_decided f (run_input_of input ≡ Err f) (asked_run (run_input_of input) ≡ Err f) (λ e. ap asked_run e) h

-- a run that was counted goes by its plan
pub goes_by : (plan : Option Plan) (policy : Policy) (table : Table) (arrivals : Arrivals) (counted : Counted) (numbers : RunNumbers)
    → IsCountedBy plan policy table arrivals counted numbers → MayGoBy plan arrivals
goes_by None policy table arrivals counted numbers h = tt
goes_by (Some plan) policy table arrivals counted numbers h = h.may

-- why a run could not be counted, or made
pub refused_count : (asked : MeasuredInput) (table : Table) (arrivals : Arrivals) (fault : CountFault) → IsCountFault asked.counting table arrivals fault
    → IsRefusedOn asked table arrivals (fault_of_count fault)
refused_count asked table arrivals counts.Memory h = refl
refused_count asked table arrivals (counts.Came fault) h = h
refused_count asked table arrivals counts.NoRequests h = h

refused_made : (plan : Option Plan) (asked : MeasuredInput) (table : Table) (arrivals : Arrivals) (fault : PlannedFault) → plan ≡ asked.plan → IsFaultBy plan arrivals fault
    → IsRefusedOn asked table arrivals (fault_of_planned fault)
refused_made None asked table arrivals fault is h = subst (λ (f : PlannedFault). IsRefusedOn asked table arrivals (fault_of_planned f)) (sym h) refl
refused_made (Some plan) asked table arrivals (planned.Run fault) is h = h
refused_made (Some plan) asked table arrivals (planned.Pace fault) is h = rw (sym is) h

pub refused_by : (asked : MeasuredInput) (table : Table) (arrivals : Arrivals) (fault : PlannedFault) → IsFaultBy asked.plan arrivals fault
    → IsRefusedOn asked table arrivals (fault_of_planned fault)
refused_by asked table arrivals fault h = refused_made asked.plan asked table arrivals fault refl h

-- the fault of the arrivals that are asked for is that of the input
pub decided_run : (asked : MeasuredInput) (table : Table) (arrivals : Arrivals) (fault : AskedFault) (subject : Result Subject RunFault)
    → subject ≡ Ok (of_run (record { table = table; arrivals = arrivals })) → IsRefusedOn asked table arrivals fault → DecidedFor asked fault subject
decided_run asked table arrivals (Run fault) subject is h = subst (λ (f : RunFault). Decided f (subject ≡ Err f)) (sym h) tt
decided_run asked table arrivals (Pace fault) subject is h = rw is h
decided_run asked table arrivals (Count fault) subject is h = rw is h

-- a fault before anything is written fails as it must
pub failed_for : (asked : MeasuredInput) (fault : AskedFault) (subject : Result Subject RunFault) → DecidedFor asked fault subject → FailedFor asked fault subject
failed_for asked (Run faults.Length) subject h = h
failed_for asked (Run faults.Separator) subject h = h
failed_for asked (Run (faults.Config f)) subject h = h
failed_for asked (Run (faults.Trace f)) subject h = h
failed_for asked (Run faults.Memory) subject h = tt
failed_for asked (Run faults.Read) subject h = absurd h
failed_for asked (Run faults.Write) subject h = absurd h
failed_for asked (Run faults.Spawn) subject h = absurd h
failed_for asked (Run faults.Gate) subject h = absurd h
failed_for asked (Pace f) subject h = h
failed_for asked (Count f) subject h = h
