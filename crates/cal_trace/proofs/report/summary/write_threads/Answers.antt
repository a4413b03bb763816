use Rattle.cal_trace.proofs.Common.{[], List, slice_index_or, subst, Entry, IsTallyOf, thread_line}
use Rattle.cal_trace.proofs.ListLemmas.Numbered.{one_numbered_at}
use Rattle.cal_trace.proofs.report.summary.write_threads.Goals as goal

pub loop-thread-preserved : goal.loop-thread-preserved
loop-thread-preserved g c =
    let journal = c.index-journals-thread.result in
    let P : List Entry → Type 0 = λ j. IsTallyOf j c.of-tally.result in
    let its : IsTallyOf journal c.of-tally.result = subst P c.as_slice.ensures c.of-tally.ensures in
    one_numbered_at (λ thread journal. thread_line thread journal (slice_index_or c.args.left.now thread [])) _ _ _ c.args.journals.now c.loop-thread.thread _ c.loop-thread-test.true
    c.index-journals-thread.is c.loop-thread.invariant (c.in_ok-write_thread.ensures journal _ its c.left_with.ensures)
