use Rattle.cal_policy.proofs.Common.{◌≡◌, ◌+◌, not, ap, ◌∙◌, arith, has_thread}
use Rattle.cal_policy.proofs.PassLemmas.Rooms.{rooms_are}
use Rattle.cal_policy.proofs.pass.terms.full_rings.Goals as goal

pub returns : goal.returns
returns c = rooms_are c.loop-k.full 0 c.args.rooms.now
    (λ k lt. (let e : 0 + k ≡ k = omega arith in ap (λ j. not (has_thread c.loop-k.full j)) e ∙ c.loop-k.invariant.below k (omega (arith, lt))))
