use Rattle.cal_guarantee.proofs.Given.{given_to_waiting}
use Rattle.cal_guarantee.proofs.guarantee.guarantees_are_given.Goals as goal

pub returns : goal.returns
returns c = given_to_waiting
