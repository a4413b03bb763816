use Rattle.std.proofs.Common.{rules, arith}
use Rattle.cal_machine.specs.CoreSet.{has}
use Rattle.cal_machine.proofs.Bits.{none_in_zero, lowest}
use Rattle.cal_machine.proofs.core_set.CoreSet.least.Goals as goal

pub returns-then-self-eq0-clause-empty : goal.returns-then-self-eq0-clause-empty
unfolding has
returns-then-self-eq0-clause-empty c = rw (c.if-self-eq0.true) none_in_zero

pub returns-clause-least : goal.returns-clause-least
unfolding has
returns-clause-least c =
    let found = lowest c.args.self.now.bits (omega (arith, c.if-self-eq0.false)) (search rules) in
    record { within = found.0; member = found.1; none_below = found.2 }
