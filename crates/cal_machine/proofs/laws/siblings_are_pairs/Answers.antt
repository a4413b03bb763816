use Rattle.cal_machine.proofs.Siblings.{pairs}
use Rattle.cal_machine.proofs.laws.siblings_are_pairs.Goals as goal

pub returns : goal.returns
returns c = pairs
