use Rattle.cal_policy.proofs.Common.{refl, last_shown, IsFitLook}
use Rattle.cal_policy.proofs.ListLemmas.Each.{each_all}
use Rattle.cal_policy.proofs.judgement.judging.each_fits.Goals as goal

pub returns : goal.returns
returns c = λ looks a.
    (λ _. each_all (λ j look. IsFitLook (last_shown looks j) look) c.args.seen.now c.loop-k.k c.loop-k-test.false (c.loop-k.invariant looks a), λ _. refl)
