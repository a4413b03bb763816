use Rattle.cal_assured.proofs.Legality.{nothing}
use Rattle.cal_assured.proofs.histories.nothing_is_legal.Goals as goal

pub returns : goal.returns
returns c = nothing
