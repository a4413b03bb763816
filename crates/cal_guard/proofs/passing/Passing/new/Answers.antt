use Rattle.cal_guard.proofs.Common.{[], refl, Setting, setting}
use Rattle.cal_guard.proofs.Sent.{none_sent}
use Rattle.cal_guard.proofs.Standing.{stands_first}
use Rattle.cal_guard.proofs.passing.Passing.new.Goals as goal

pub returns-clause-after : goal.returns-clause-after
returns-clause-after c = λ table input unseen.
    let s : Setting = setting table [] input in record {
      stands = stands_first s c.new.result refl unseen c.new.ensures.agrees c.new.ensures.fresh c.new.ensures.keeping c.new.ensures.before;
      sent = none_sent c.empty.result s c.empty.ensures;
    }
