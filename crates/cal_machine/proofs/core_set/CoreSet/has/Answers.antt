use Rattle.cal_machine.specs.CoreSet.{has}
use Rattle.cal_machine.proofs.Bits.{tested}
use Rattle.cal_machine.proofs.core_set.CoreSet.has.Goals as goal

pub returns : goal.returns
unfolding has
returns c = tested c.args.self.now.bits c.args.core
