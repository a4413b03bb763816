use Rattle.cal_assured.proofs.PassLaws.{fewest_comes_first}
use Rattle.cal_assured.proofs.passes.the_fewest_held_comes_first.Goals as goal

pub returns : goal.returns
returns c = fewest_comes_first
