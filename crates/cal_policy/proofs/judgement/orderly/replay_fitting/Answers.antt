-- Looks that fit are kept, and no action changes what is kept.
use Rattle.cal_policy.specs.History.{looks_of}
use Rattle.cal_policy.proofs.BoardLemmas.Replayed.{looks_push}
use Rattle.cal_policy.proofs.judgement.orderly.replay_fitting.Goals as goal

pub returns-clause-keeping : goal.returns-clause-keeping
returns-clause-keeping c = λ yes h k.
    let fit = ((c.looks_fit.ensures.fit h k).0 c.if-not-looks_fit.false).fit in
    let after = c.begin_fit.ensures.keeping (looks_of h) k (rw c.as_slice.ensures fit) in
    rw (c.step_fitting.ensures.keeping, looks_push h c.args.entry.now) (rw c.as_slice.ensures at after)
