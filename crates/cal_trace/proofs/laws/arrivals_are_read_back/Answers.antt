use Rattle.cal_machine.specs.Tasks.{threads_in}
use Rattle.cal_trace.proofs.ArrivalLemmas.ReadBack.{arrivals_back}
use Rattle.cal_trace.proofs.HistoryLemmas.Extents.{table_extent}
use Rattle.cal_trace.proofs.laws.arrivals_are_read_back.Goals as goal

pub returns : goal.returns
returns c = λ table arrivals ok fits words. let few = table_extent table ok in arrivals_back (threads_in table.tasks) arrivals few.few_threads fits words
