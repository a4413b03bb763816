use Rattle.cal_guarantee.proofs.GivenWhole.{whole_given}
use Rattle.cal_guarantee.proofs.guarantee.guarantees_are_given_whole.Goals as goal

pub returns : goal.returns
returns c = whole_given
