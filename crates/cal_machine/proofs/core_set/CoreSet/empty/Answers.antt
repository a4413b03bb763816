use Rattle.cal_machine.specs.CoreSet.{has}
use Rattle.cal_machine.proofs.Bits.{none_in_zero}
use Rattle.cal_machine.proofs.core_set.CoreSet.empty.Goals as goal

pub returns : goal.returns
unfolding has
returns c = none_in_zero
