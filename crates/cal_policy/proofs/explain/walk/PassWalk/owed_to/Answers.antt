use Rattle.std.proofs.Common.{◌<◌, arith}
use Rattle.cal_policy.proofs.explain.walk.PassWalk.owed_to.Goals as goal

pub returns : goal.returns
returns c = λ h w.
    let low : c.args.core < 128 = omega (arith, c.requires.core, c.requires.walk.table.accepted.machine.most) in
    rw c.deref.ensures (w.stands.agrees.debts.owed c.args.core low)
