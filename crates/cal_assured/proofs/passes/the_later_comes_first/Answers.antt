use Rattle.cal_assured.proofs.PassLaws.{later_comes_first}
use Rattle.cal_assured.proofs.passes.the_later_comes_first.Goals as goal

pub returns : goal.returns
returns c = later_comes_first
