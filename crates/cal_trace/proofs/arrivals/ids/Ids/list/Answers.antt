use Rattle.std.proofs.Common.{refl}
use Rattle.cal_trace.proofs.Ids.{one_listed}
use Rattle.cal_trace.proofs.arrivals.ids.Ids.list.Goals as goal

pub loop-one-preserved : goal.loop-one-preserved
loop-one-preserved c = record {
  known = one_listed _ _ c.args.requests.now c.loop-one.one-index _ _ c.loop-one-test.true refl (λ id. c.in_ok-insert.ensures.updates.0 id) c.loop-one.invariant.known;
}
