use Rattle.std.proofs.Common.{arith}
use Rattle.cal_machine.proofs.ThreadNumbers.{first_next, owners_next}
use Rattle.cal_machine.proofs.numbering.owners_of.Goals as goal

pub loop-t-preserved : goal.loop-t-preserved
loop-t-preserved c =
    let known = rw c.loop-t.invariant.0 at c.loop-t.invariant.1 in
    let given = rw c.loop-t.invariant.0 at c.give.ensures in (
      omega (arith, c.loop-t.invariant.0, first_next c.args.tasks.now c.loop-t.t c.loop-t-test.true),
      rw (c.loop-t.invariant.0) (owners_next c.args.tasks.now c.loop-t.t c.loop-t.owners c.give.new.owners c.loop-t-test.true known given),
    )
