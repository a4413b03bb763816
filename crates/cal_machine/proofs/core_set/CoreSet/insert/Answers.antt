use Rattle.cal_machine.specs.CoreSet.{has}
use Rattle.cal_machine.proofs.Bits.{inserted}
use Rattle.cal_machine.proofs.core_set.CoreSet.insert.Goals as goal

pub returns : goal.returns
unfolding has
returns c = λ core. inserted c.args.self.now.bits c.args.core core c.requires
