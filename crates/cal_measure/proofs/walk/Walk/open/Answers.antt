use Rattle.std.proofs.Common.{refl, arith}
use Rattle.cal_measure.proofs.walk.Walk.open.Goals as goal

pub returns-clause-open : goal.returns-clause-open
returns-clause-open c = record {
  ready = c.new.ensures.ready c.args.config.now;
  actions = c.in_ok-actions.ensures.many;
  times = c.in_ok-times.ensures.many;
}

pub returns-clause-walk : goal.returns-clause-walk
returns-clause-walk c = record {
  state = c.new.ensures.agrees;
  clock = refl;
  actions = c.in_ok-actions.ensures.each;
  times = c.in_ok-times.ensures.each;
  machine = c.none.ensures c.args.config.now;
  few_actions = omega arith;
  few = omega arith;
}
