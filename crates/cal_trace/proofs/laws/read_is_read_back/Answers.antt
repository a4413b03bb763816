use Rattle.cal_trace.proofs.Common.{extent_of, rows_of}
use Rattle.cal_trace.proofs.HistoryLemmas.Extents.{table_extent}
use Rattle.cal_trace.proofs.HistoryLemmas.ReadBack.{history_back}
use Rattle.cal_trace.proofs.HistoryLemmas.ReadInRange.{read_in_range}
use Rattle.cal_trace.proofs.laws.read_is_read_back.Goals as goal

pub returns : goal.returns
returns c = λ table text history ok e. history_back (extent_of table) history (table_extent table ok) (read_in_range (extent_of table) (rows_of text) history e)
