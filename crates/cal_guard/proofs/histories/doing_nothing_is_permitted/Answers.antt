use Rattle.cal_guard.proofs.Lasting.{nothing}
use Rattle.cal_guard.proofs.histories.doing_nothing_is_permitted.Goals as goal

pub returns : goal.returns
returns c = nothing
