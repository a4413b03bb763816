use Rattle.cal_guarantee.proofs.WaitsLast.{waits_to_grants}
use Rattle.cal_guarantee.proofs.one_pass.waits_last_to_the_grants.Goals as goal

pub returns : goal.returns
returns c = waits_to_grants
