use Rattle.cal_trace.proofs.Common.{threads_in, rows_of}
use Rattle.cal_trace.proofs.ArrivalsFit.{given_fit}
use Rattle.cal_trace.proofs.arrivals.file.read_arrivals.Goals as goal

pub returns-clause-gives : goal.returns-clause-gives
returns-clause-gives c = rw (c.open-rows.ensures.rest, c.threads.ensures.count) at c.take_arrivals.ensures

pub returns-clause-fits : goal.returns-clause-fits
returns-clause-fits c = given_fit (threads_in c.args.config.now.tasks) (rows_of c.args.text.now) c.take_arrivals.result (returns-clause-gives c)
