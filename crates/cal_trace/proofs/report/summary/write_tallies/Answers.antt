use Rattle.cal_trace.proofs.Common.{◌≡◌, ◌<◌, [], List, length, get_or, take, slice_index_or, ap, subst, ◌∙◌, arith, Appends, Entry, IsTallyOf, thread_line, thread_lines}
use Rattle.std.proofs.lemmas.Slice.Zip.{AllZip-long}
use Rattle.std.proofs.Math.Seq.{take-length}
use Rattle.cal_trace.proofs.ListLemmas.Numbered.{one_numbered}
use Rattle.cal_trace.proofs.Tallies.{tally_at}
use Rattle.cal_trace.proofs.report.summary.write_tallies.Goals as goal

pub loop-thread-preserved : goal.loop-thread-preserved
loop-thread-preserved g c = λ journals are.
    let left = c.args.left.now in
    let k = c.loop-thread.thread in
    let low : k < length c.args.tallies.now = c.loop-thread-test.true in
    let many = AllZip-long IsTallyOf journals c.args.tallies.now are in
    let within : k < length journals = omega (arith, low, many) in
    let its = tally_at journals c.args.tallies.now k _ are within in
    one_numbered (λ thread journal. thread_line thread journal (slice_index_or left thread [])) _ _ _ journals k [] within
    (c.loop-thread.invariant journals are) (c.in_ok-write_thread.ensures (get_or journals k []) (slice_index_or left k []) its c.left_with.ensures)

pub returns : goal.returns
returns g c = λ journals are.
    let a = c.loop-thread-test.false in
    let b = c.loop-thread.auto.thread-end in
    let many = AllZip-long IsTallyOf journals c.args.tallies.now are in
    let end : c.loop-thread.thread ≡ length journals = omega (arith, a, b, many) in
    let P : List (List Entry) → Type 0 = λ l. Appends (g.W.Write.contents c.args.writer.now) (g.W.Write.contents c.loop-thread.writer) (thread_lines c.args.left.now l) in
    subst P (ap (λ n. take n journals) end ∙ take-length journals) (c.loop-thread.invariant journals are)
