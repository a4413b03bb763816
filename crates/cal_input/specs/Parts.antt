-- The parts of an input: its task table, and the text of its trace or the arrivals in that.
use Rattle.std.specs.Prelude.{ℕ, List, length, nat_lt, Option, Some, None, Result, Ok, Err}
use Rattle.std.specs.Prelude.{if◌then◌else◌}
use Rattle.cal_machine.specs.Reading.{table_in}
use Rattle.cal_machine.specs.Table.{Table}
use Rattle.cal_machine.specs.Tasks.{threads_in}
use Rattle.cal_machine.specs.declared.fault.ConfigFault.{ConfigFault}
use Rattle.cal_trace.specs.Rows.{rows_of}
use Rattle.cal_trace.specs.Arrivals.{arrivals_of}
use Rattle.cal_trace.specs.declared.fault.TraceFault.{TraceFault}
use Rattle.cal_trace.specs.declared.arrivals.Arrivals.{Arrivals}
use Rattle.cal_input.specs.Input.{input_parts}
use Rattle.cal_input.specs.declared.fault.RunFault.{RunFault}
use Rattle.cal_input.specs.declared.fault.RunFault.TheVariants as fault
use Rattle.cal_input.specs.declared.reading.TheConstants.{INPUT_LIMIT}

-- a task table and the text of a trace
pub record Parts : Type 0 where
  pub table : Table
  pub trace : List ℕ

abbrev pub with_table : Result Table ConfigFault → List ℕ → Result Parts RunFault
with_table (Err f) trace = Err (fault.Config f)
with_table (Ok table) trace = Ok (record { table = table; trace = trace })

abbrev pub with_parts : Option (List ℕ × List ℕ) → Result Parts RunFault
with_parts None = Err fault.Separator
with_parts (Some parts) = with_table (table_in parts.0) parts.1

-- the table and the trace of an input, or its first fault
abbrev pub parts_of : List ℕ → Result Parts RunFault
parts_of input = with_parts (input_parts input)

-- what an input asks for, where it is within the limit
abbrev pub within_limit : {X : Type 0} → List ℕ → Result X RunFault → Result X RunFault
within_limit input outcome = if nat_lt INPUT_LIMIT (length input) then Err fault.Length else outcome

-- what a run is given: a table, and arrivals for its threads
pub record RunInput : Type 0 where
  pub table : Table
  pub arrivals : Arrivals

abbrev pub arrivals_on : Table → Result Arrivals TraceFault → Result RunInput RunFault
arrivals_on table (Err f) = Err (fault.Trace f)
arrivals_on table (Ok arrivals) = Ok (record { table = table; arrivals = arrivals })

abbrev pub run_input : Result Parts RunFault → Result RunInput RunFault
run_input (Err f) = Err f
run_input (Ok parts) =
    arrivals_on parts.table (arrivals_of (threads_in parts.table.tasks) (rows_of parts.trace))

-- the table and the arrivals of an input, or its first fault
abbrev pub run_input_of : List ℕ → Result RunInput RunFault
run_input_of input = run_input (parts_of input)
