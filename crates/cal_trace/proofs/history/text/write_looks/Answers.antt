use Rattle.cal_trace.proofs.HistoryLemmas.Lines.{one_look}
use Rattle.cal_trace.proofs.history.text.write_looks.Goals as goal

pub loop-thread-preserved : goal.loop-thread-preserved
loop-thread-preserved g c = one_look _ _ _ c.args.rooms.now c.args.seen.now c.loop-thread.thread _ c.loop-thread-test.true c.loop-thread.invariant (rw c.room_at.ensures at c.in_ok-write_look.ensures)
