-- How many passes the history of an input has.
use Rattle.std.specs.Prelude.{ℕ, length, Result, Ok, Err}
use Rattle.cal_input.specs.Recorded.{Run}
use Rattle.cal_input.specs.declared.fault.RunFault.{RunFault}

abbrev pub passes_in : Result Run RunFault → Result ℕ RunFault
passes_in (Err f) = Err f
passes_in (Ok run) = Ok (length run.history)
