use Rattle.cal_linear.proofs.Common.{◌+◌, ◌++◌, ap, ◌∙◌, take, drop, up_to}
use Rattle.cal_linear.proofs.Order.{events_more, cut_next}
use Rattle.cal_linear.proofs.steps.append_upto.Goals as goal

pub loop-i-preserved : goal.loop-i-preserved
loop-i-preserved c =
    let xs = c.args.entries.now in
    let i = c.loop-i.i in
    record {
      appended = events_more c.args.thread xs i _ c.args.events.now.items c.loop-i.events.items c.append_entry.new.events.items c.loop-i-test.true c.loop-i.invariant.appended c.in_ok-append_entry.ensures;
      cut = ap (λ n. take (i + 1) xs ++ up_to n (drop (i + 1) xs)) c.still_left-left.ensures ∙ cut_next xs i c.loop-i.left c.args.publications _ c.loop-i-test.true c.if-left-eq0.false c.loop-i.invariant.cut;
    }
