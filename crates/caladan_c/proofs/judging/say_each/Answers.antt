use Rattle.std.proofs.Common.{◌<◌, length, refl, arith, rules}
use Rattle.caladan_c.proofs.OneByOne.{said_to}
use Rattle.caladan_c.proofs.judging.say_each.Goals as goal

pub loop-k-preserved : goal.loop-k-preserved
loop-k-preserved c =
    let i = c.loop-k.invariant in
    let room : c.loop-k.k < length c.loop-k.judged = omega (arith, i.room, c.requires.count, c.requires.room, c.loop-k-test.true) in
    record {
      room = search rules;
      said = λ h agrees. said_to c.args.config.now.cores h c.args.looks.now c.loop-k.judged _ c.loop-k.k c.say_of.result _ room refl
          (c.say_of.ensures h agrees) c.loop-k-test.true (i.said h agrees);
    }
