use Rattle.cal_kthread.proofs.Common.{arith, stripped, run_of}
use Rattle.cal_kthread.proofs.EndLemmas.Account.{settles}
use Rattle.cal_kthread.proofs.EndLemmas.HandingOut.{still-untouched}
use Rattle.cal_kthread.proofs.ListSums.{same-through}
use Rattle.cal_kthread.proofs.end.settling.settle.Goals as goal

pub returns-clause-settled : goal.returns-clause-settled
returns-clause-settled g c = settles c.args.ends.now c.loop-k.ends c.requires.work c.loop-k.invariant.0 (λ j within. c.loop-k.invariant.2 j
    (let a = c.loop-k-test.false in let b = c.threads-k-end.ensures.count in let d = c.requires.count in let e = c.loop-k.invariant.1 in omega (arith, a, b, d, e, within)))

pub returns-clause-runs : goal.returns-clause-runs
returns-clause-runs g c = same-through run_of stripped c.loop-k.ends c.args.ends.now c.loop-k.invariant.0.same

pub returns-clause-untouched : goal.returns-clause-untouched
returns-clause-untouched g c = still-untouched c.args.ends.now c.loop-k.ends c.loop-k.invariant.0.same
