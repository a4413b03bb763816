use Rattle.cal_policy.proofs.Common.{◌≡◌, refl, look_of, judged}
use Rattle.cal_policy.proofs.ListLemmas.Each.{each_all}
use Rattle.cal_policy.proofs.judgement.judging.each_as_judged.Goals as goal

pub returns : goal.returns
returns c = λ x a.
    (λ _. each_all (λ j look. look ≡ judged c.args.cores x j (look_of look)) c.args.seen.now c.loop-k.k c.loop-k-test.false (c.loop-k.invariant x a), λ _. refl)
