use Rattle.cal_guard.proofs.Lasting.{goes_on}
use Rattle.cal_guard.proofs.histories.permitted_goes_on.Goals as goal

pub returns : goal.returns
returns c = goes_on
