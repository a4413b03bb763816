use Rattle.std.proofs.Common.{◌<◌, arith}
use Rattle.cal_policy.proofs.explain.walk.PassWalk.placed.Goals as goal

pub returns-clause-placed : goal.returns-clause-placed
returns-clause-placed c = λ p act t h w.
    let low : c.args.place < 16 = omega (arith, c.requires.place, c.requires.walk.table.accepted.tasks) in
    (rw (p, t) at w.order).placed c.args.place low
