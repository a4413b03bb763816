use Rattle.cal_trace.specs.History.Reading.{extent_of}
use Rattle.cal_trace.proofs.HistoryLemmas.Extents.{table_extent}
use Rattle.cal_trace.proofs.HistoryLemmas.PlainRows.{rows_back}
use Rattle.cal_trace.proofs.laws.text_is_its_rows.Goals as goal

pub returns : goal.returns
returns c = λ table history ok r. rows_back (extent_of table) history (table_extent table ok) r
