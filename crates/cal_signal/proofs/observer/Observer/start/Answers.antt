use Rattle.std.proofs.Common.{rules}
use Rattle.cal_signal.proofs.PageSteps.{starts}
use Rattle.cal_signal.proofs.observer.Observer.start.Goals as goal

pub load-first-requires : goal.load-first-requires
load-first-requires c = (search rules, search rules, starts _ _ _)
