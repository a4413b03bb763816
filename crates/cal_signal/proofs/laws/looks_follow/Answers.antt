use Rattle.cal_signal.proofs.Following.{follows, one_more}
use Rattle.cal_signal.proofs.laws.looks_follow.Goals as goal

pub returns-clause-follow : goal.returns-clause-follow
returns-clause-follow c = follows

pub returns-clause-last : goal.returns-clause-last
returns-clause-last c = one_more
