use Rattle.cal_linear.proofs.Common.{◌∙◌, ◌++◌, watch_events, whole_looks_of}
use Rattle.cal_linear.proofs.Order.{round_next}
use Rattle.cal_linear.proofs.watches.append_watches.Goals as goal

pub loop-round-preserved : goal.loop-round-preserved
loop-round-preserved c =
    round_next c.args.watched.now c.loop-round.round-index _ c.as_slice.result.now c.loop-round.events.items c.append_round.new.events.items
    (c.args.events.now.items ++ watch_events (whole_looks_of c.args.watched.now)) c.loop-round-test.true (c.as_slice.ensures ∙ c.round-item.is) c.in_ok-append_round.ensures c.loop-round.invariant
