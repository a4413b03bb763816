use Rattle.cal_guarantee.proofs.HonestWaits.{honest_stay}
use Rattle.cal_guarantee.proofs.guarantee.honest_waits_stay.Goals as goal

pub returns : goal.returns
returns c = honest_stay
