use Rattle.std.proofs.Common.{rules, arith}
use Rattle.cal_machine.specs.CoreSet.{has}
use Rattle.cal_machine.proofs.Bits.{none_beyond, none_from, lowest_from}
use Rattle.cal_machine.proofs.core_set.CoreSet.least_from.Goals as goal

pub returns-then-first-ge-MOST_CORES-clause-none : goal.returns-then-first-ge-MOST_CORES-clause-none
unfolding has
returns-then-first-ge-MOST_CORES-clause-none c = λ core from. none_beyond c.args.self.now.bits core (search rules) (omega (arith, from, c.if-first-ge-MOST_CORES.true))

pub returns-then-rest-eq0-clause-none : goal.returns-then-rest-eq0-clause-none
unfolding has
returns-then-rest-eq0-clause-none c = λ core from. none_from c.args.self.now.bits c.args.first core c.if-rest-eq0.true from

pub returns-clause-least : goal.returns-clause-least
unfolding has
returns-clause-least c =
    let found = lowest_from c.args.self.now.bits c.args.first (omega (arith, c.if-rest-eq0.false)) (search rules) in
    record { from = omega arith; within = found.0; member = found.1; none_between = found.2 }
