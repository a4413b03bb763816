use Rattle.std.proofs.Common.{rules}
use Rattle.cal_machine.specs.CoreSet.{has}
use Rattle.cal_machine.proofs.Bits.{removed}
use Rattle.cal_machine.proofs.core_set.CoreSet.remove.Goals as goal

pub returns : goal.returns
unfolding has
returns c = λ core. removed c.args.self.now.bits c.args.core core (search rules) c.requires
