use Rattle.cal_trace.proofs.HistoryLemmas.ReadInRange.{read_in_range}
use Rattle.cal_trace.specs.History.Reading.{extent_of}
use Rattle.cal_trace.specs.Rows.{rows_of}
use Rattle.cal_tables.proofs.replayed.read_replayed.Goals as goal

pub returns-clause-read : goal.returns-clause-read
returns-clause-read c = record { run = c.in_ok-config.ensures.exact; told = c.in_ok-history.ensures }

pub returns-clause-range : goal.returns-clause-range
returns-clause-range c = read_in_range (extent_of c.in_ok-config.config) (rows_of c.args.history.now) c.in_ok-history.history.items c.in_ok-history.ensures
