use Rattle.cal_trace.specs.History.Reading.{extent_of}
use Rattle.cal_trace.proofs.HistoryLemmas.Extents.{table_extent}
use Rattle.cal_trace.proofs.HistoryLemmas.ReadBack.{history_back}
use Rattle.cal_trace.proofs.HistoryLemmas.LegalInRange.{legal_in_range}
use Rattle.cal_trace.proofs.laws.legal_is_read_back_by.Goals as goal

pub returns : goal.returns
returns c = λ policy table history ok legal sized.
    history_back (extent_of table) history (table_extent table ok) (legal_in_range policy table history ok legal sized)
