use Rattle.cal_kthread.proofs.Common.{◌∙◌, arith, run_of}
use Rattle.cal_kthread.proofs.EndLemmas.HandingOut.{all-accounted, one-end-more}
use Rattle.cal_kthread.proofs.ListSums.{at-within, map-set-like}
use Rattle.cal_kthread.proofs.end.handing_out.hand_out_all.Goals as goal

pub hand_out-requires-clause-shares : goal.hand_out-requires-clause-shares
hand_out-requires-clause-shares g c = c.loop-k.invariant.settled.shares _ _ (at-within c.loop-k.ends c.loop-k.k c.index-ends-k.result
    (let a = c.loop-k-test.true in let b = c.loop-k.auto.ends in omega (arith, a, b)))

pub hand_out-requires-clause-untouched : goal.hand_out-requires-clause-untouched
hand_out-requires-clause-untouched g c = c.loop-k.invariant.untouched _ _ (at-within c.loop-k.ends c.loop-k.k c.index-ends-k.result
    (let a = c.loop-k-test.true in let b = c.loop-k.auto.ends in omega (arith, a, b))) (omega arith)

pub returns-in_err-left-clause-same : goal.returns-in_err-left-clause-same
returns-in_err-left-clause-same g c =
    map-set-like run_of c.loop-k.ends c.loop-k.k _ c.hand_out.new.end (at-within c.loop-k.ends c.loop-k.k c.index-ends-k.result
    (let a = c.loop-k-test.true in let b = c.loop-k.auto.ends in omega (arith, a, b))) c.in_err-left.ensures.same ∙ c.loop-k.invariant.same

pub returns-in_err-push-clause-same : goal.returns-in_err-push-clause-same
returns-in_err-push-clause-same g c =
    map-set-like run_of c.loop-k.ends c.loop-k.k _ c.hand_out.new.end (at-within c.loop-k.ends c.loop-k.k c.index-ends-k.result
    (let a = c.loop-k-test.true in let b = c.loop-k.auto.ends in omega (arith, a, b))) c.in_ok-left.ensures.same ∙ c.loop-k.invariant.same

pub loop-k-preserved : goal.loop-k-preserved
loop-k-preserved g c = rw c.in_ok-push.ensures.items (one-end-more c.loop-k.k c.args.ends.now c.loop-k.ends c.loop-k.lefts.items _ c.hand_out.new.end c.in_ok-left.left
    c.loop-k.invariant (at-within c.loop-k.ends c.loop-k.k c.index-ends-k.result
    (let a = c.loop-k-test.true in let b = c.loop-k.auto.ends in omega (arith, a, b))) c.in_ok-left.ensures.same c.in_ok-left.ensures.moved c.in_ok-left.ensures.list c.in_ok-left.ensures.drained)

pub returns-clause-account : goal.returns-clause-account
returns-clause-account g c = (all-accounted c.loop-k.k c.args.ends.now c.loop-k.ends c.loop-k.lefts.items c.loop-k.invariant
    (let a = c.loop-k-test.false in let b = c.loop-k.auto.ends in omega (arith, a, b))).1
