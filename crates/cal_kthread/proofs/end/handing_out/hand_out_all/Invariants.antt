use Rattle.cal_kthread.proofs.EndLemmas.HandingOut.{HandedUpTo}
use Rattle.cal_kthread.proofs.end.handing_out.hand_out_all.Given as goal

abbrev pub invariant-loop-k : goal.invariant-loop-k
invariant-loop-k g l = HandedUpTo l.k l.initial.ends l.ends l.lefts.items
