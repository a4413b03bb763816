-- What was read of an input.
use Rattle.std.specs.Prelude.{◌≡◌, Result, Ok}
use Rattle.cal_input.specs.declared.fault.RunFault.{RunFault}
use Rattle.cal_tables.specs.Asked.{Subject, of_history, of_run}
use Rattle.cal_trace.specs.Arrivals.FitsTable.{FitsTable}
use Rattle.cal_trace.specs.History.Ranges.{IsInRange}
use Rattle.cal_trace.specs.History.Reading.{extent_of}
use Rattle.cal_tables.specs.declared.asking.Asked.{Asked}
use Rattle.cal_tables.specs.declared.asking.Asked.TheVariants as asked

-- what was read, as what is asked for
abbrev pub subject_of : Asked → Subject
subject_of (asked.Run config arrivals) = of_run (record { table = config; arrivals = arrivals })
subject_of (asked.History config history) =
    of_history (record { table = config; history = history.items })

-- it is what is asked for
abbrev pub IsReadAs : Result Subject RunFault → Asked → Type 0
IsReadAs subject read = subject ≡ Ok (subject_of read)

-- arrivals that were read fit their table, and a history is in the range of its
abbrev pub IsAcceptable : Asked → Type 0
IsAcceptable (asked.Run config arrivals) = FitsTable config arrivals
IsAcceptable (asked.History config history) = IsInRange (extent_of config) history.items
