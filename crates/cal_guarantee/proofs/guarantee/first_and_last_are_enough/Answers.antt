use Rattle.cal_guarantee.proofs.Given.{enough_given}
use Rattle.cal_guarantee.proofs.guarantee.first_and_last_are_enough.Goals as goal

pub returns : goal.returns
returns c = enough_given
