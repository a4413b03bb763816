-- The history that an input records, and its passes as they are given one by one.
use Rattle.std.specs.Prelude.{ℕ, List, Result, Ok, Err, ◌≡◌}
use Rattle.cal_machine.specs.Table.{Table}
use Rattle.cal_policy.specs.declared.history.entry.PassEntry.{PassEntry}
use Rattle.cal_trace.specs.History.{history_of}
use Rattle.cal_trace.specs.History.Reading.{extent_of, HasGiven}
use Rattle.cal_trace.specs.Rows.{rows_of}
use Rattle.cal_trace.specs.declared.fault.TraceFault.{TraceFault}
use Rattle.cal_trace.specs.declared.history.file.HistoryRows.{HistoryRows}
use Rattle.cal_input.specs.Parts.{parts_of, Parts}
use Rattle.cal_input.specs.declared.fault.RunFault.{RunFault}
use Rattle.cal_input.specs.declared.fault.RunFault.TheVariants as fault

-- a table and a history of its threads
pub record Run : Type 0 where
  pub table : Table
  pub history : List PassEntry

-- the table and the history of a file, as it is there
abbrev pub recorded_on : Table → Result (List PassEntry) TraceFault → Result Run RunFault
recorded_on table (Err f) = Err (fault.Trace f)
recorded_on table (Ok history) = Ok (record { table = table; history = history })

abbrev pub recorded_run : Result Parts RunFault → Result Run RunFault
recorded_run (Err f) = Err f
recorded_run (Ok parts) = recorded_on parts.table
    (history_of (extent_of parts.table) (rows_of parts.trace))

-- the run that an input of a history tells of, or its first fault
abbrev pub recorded_run_of : List ℕ → Result Run RunFault
recorded_run_of input = recorded_run (parts_of input)

-- These passes of an input's history were given, by its table: its trace is a text of which they
-- were.
pub record HasGivenOf (input : List ℕ) (table : Table) (given : List PassEntry)
    (history : HistoryRows) : Type 0 where
  pub trace : List ℕ
  pub parts : parts_of input ≡ Ok (record { table = table; trace = trace })
  pub has : HasGiven (extent_of table) trace given history

-- the run that a table and the text of a history tell of, or the text's first fault
abbrev pub recorded_in : Table → List ℕ → Result Run RunFault
recorded_in table trace = recorded_on table (history_of (extent_of table) (rows_of trace))
