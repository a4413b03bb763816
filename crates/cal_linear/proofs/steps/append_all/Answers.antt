use Rattle.cal_linear.proofs.Order.{events_more}
use Rattle.cal_linear.proofs.steps.append_all.Goals as goal

pub loop-entry-preserved : goal.loop-entry-preserved
loop-entry-preserved c = events_more c.args.thread c.args.entries.now c.loop-entry.entry-index _ c.args.events.now.items c.loop-entry.events.items c.append_entry.new.events.items c.loop-entry-test.true c.loop-entry.invariant c.in_ok-append_entry.ensures
