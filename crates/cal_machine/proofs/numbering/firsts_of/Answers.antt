use Rattle.std.proofs.Common.{rules, arith, ◌<◌, length, length-set}
use Rattle.cal_machine.proofs.ThreadNumbers.{first_next, firsts_next}
use Rattle.cal_machine.proofs.numbering.firsts_of.Goals as goal

pub loop-t-preserved : goal.loop-t-preserved
loop-t-preserved c =
    let within : c.loop-t.t < length c.loop-t.firsts = omega (arith, c.loop-t-test.true, c.requires.few, c.loop-t.invariant.1) in (
      omega (arith, c.loop-t.invariant.0, first_next c.args.tasks.now c.loop-t.t c.loop-t-test.true),
      search (rules, length-set, c.loop-t.invariant.1),
      rw (c.loop-t.invariant.0) (firsts_next c.args.tasks.now c.loop-t.t c.loop-t.firsts within c.loop-t.invariant.2),
    )
