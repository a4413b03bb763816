use Rattle.cal_trace.proofs.Common.{threads_in, rows_of}
use Rattle.cal_trace.proofs.ArrivalLemmas.ReadBack.{arrivals_back}
use Rattle.cal_trace.proofs.ArrivalLemmas.Spelled.{arrivals_spelled}
use Rattle.cal_trace.proofs.ArrivalsFit.{arrivals_fit}
use Rattle.cal_trace.proofs.HistoryLemmas.Extents.{table_extent}
use Rattle.cal_trace.proofs.laws.read_arrivals_are_read_back.Goals as goal

pub returns : goal.returns
returns c = λ table text arrivals ok e.
    let few = table_extent table ok in
    let threads = threads_in table.tasks in
    arrivals_back threads arrivals few.few_threads (arrivals_fit threads (rows_of text) arrivals e) (arrivals_spelled threads (rows_of text) arrivals e)
