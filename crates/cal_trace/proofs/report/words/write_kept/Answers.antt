use Rattle.cal_trace.specs.Report.Words.{kept_line}
use Rattle.cal_trace.proofs.ListLemmas.Numbered.{one_numbered}
use Rattle.cal_trace.proofs.report.words.write_kept.Goals as goal

pub loop-thread-preserved : goal.loop-thread-preserved
loop-thread-preserved g c = one_numbered kept_line _ _ _ c.args.seen.now c.loop-thread.thread _ c.loop-thread-test.true c.loop-thread.invariant c.in_ok-write_look.ensures
