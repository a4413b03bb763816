use Rattle.cal_kthread.proofs.Common.{set, refl, ap, arith, length-set, ThiefView}
use Rattle.cal_kthread.proofs.TeamLemmas.Lending.{lends}
use Rattle.cal_kthread.proofs.ListSums.{at-within}
use Rattle.cal_kthread.proofs.team.linking.link.Goals as goal

pub returns : goal.returns
returns c = lends c.args.threads.now c.args.owner _ c.lend.new.self c.args.robber _ c.rob.new.self (record { number = c.args.owner; thief = c.in_ok-thief.thief })
    c.requires.team (at-within _ _ _ c.requires.owner) c.requires.share c.in_ok-thief.ensures.1
    (at-within (set c.args.threads.now c.args.owner c.lend.new.self) c.args.robber _ (let l = length-set c.args.threads.now c.args.owner c.lend.new.self in let r = c.requires.robber in omega (arith, l, r)))
    refl (ap (λ (t : ThiefView). t.had) c.in_ok-thief.ensures.0) (ap (λ (t : ThiefView). t.queue) c.in_ok-thief.ensures.0) c.in_ok-rob.ensures
