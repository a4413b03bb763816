-- What an input asks for.
use Rattle.std.specs.Prelude.{ℕ, Bool, List, Result, Ok, Err, if◌then◌else◌}
use Rattle.cal_input.specs.Parts.{parts_of, Parts, run_input_of, RunInput}
use Rattle.cal_input.specs.Recorded.{recorded_in, Run}
use Rattle.cal_input.specs.declared.fault.RunFault.{RunFault}
use Rattle.cal_input.specs.declared.fault.RunFault.TheVariants as fault
use Rattle.cal_machine.specs.Table.{Table}
use Rattle.cal_machine.specs.Tasks.{threads_in}
use Rattle.cal_trace.specs.Arrivals.{arrivals_of}
use Rattle.cal_trace.specs.Rows.{rows_of}
use Rattle.cal_trace.specs.declared.arrivals.Arrivals.{Arrivals}
use Rattle.cal_trace.specs.declared.fault.FaultKind.{FaultKind}
use Rattle.cal_trace.specs.declared.fault.FaultKind.TheVariants as kind
use Rattle.cal_trace.specs.declared.fault.TraceFault.{TraceFault}

-- what can be asked for: a run on these arrivals, or what a recorded history comes to
pub data Subject : Type 0 where
  of_run : RunInput → Subject
  of_history : Run → Subject

-- the history that was recorded, or the fault of its text
abbrev pub asked_history : Result Run RunFault → Result Subject RunFault
asked_history (Err f) = Err f
asked_history (Ok run) = Ok (of_history run)

-- what a text that is no file of arrivals for this reason asks for: where it has not their header,
-- the history that it records; else nothing, and the fault is that of the arrivals
abbrev pub asked_otherwise : Table → List ℕ → FaultKind → TraceFault → Result Subject RunFault
asked_otherwise table trace kind.Header f = asked_history (recorded_in table trace)
asked_otherwise table trace _ f = Err (fault.Trace f)

-- what a text after a table asks for, by the arrivals that it tells or their first fault
abbrev pub asked_on : Table → List ℕ → Result Arrivals TraceFault → Result Subject RunFault
asked_on table trace (Ok arrivals) = Ok (of_run (record { table = table; arrivals = arrivals }))
asked_on table trace (Err f) = asked_otherwise table trace f.kind f

-- the arrivals that a text tells for the threads of a table, or its first fault
abbrev pub arrivals_in : Table → List ℕ → Result Arrivals TraceFault
arrivals_in table trace = arrivals_of (threads_in table.tasks) (rows_of trace)

-- what the parts of an input ask for, or the fault by which it has none
abbrev pub asked_in : Result Parts RunFault → Result Subject RunFault
asked_in (Err f) = Err f
asked_in (Ok parts) = asked_on parts.table parts.trace (arrivals_in parts.table parts.trace)

-- what an input asks for, or its first fault
abbrev pub asked_of : List ℕ → Result Subject RunFault
asked_of input = asked_in (parts_of input)

abbrev pub asked_run : Result RunInput RunFault → Result Subject RunFault
asked_run (Err f) = Err f
asked_run (Ok input) = Ok (of_run input)

-- what an input asks for that is to be a run alone, or may be a history
abbrev pub asked_by : Bool → List ℕ → Result Subject RunFault
asked_by alone input = if alone then asked_run (run_input_of input) else asked_of input
