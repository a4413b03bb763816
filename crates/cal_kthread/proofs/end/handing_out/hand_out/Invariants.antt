use Rattle.cal_kthread.proofs.Common.{◌≡◌, HandsOutSome, left_of, run_of, to_hand_out}
use Rattle.cal_kthread.proofs.end.handing_out.hand_out.Given as goal

abbrev pub invariant-loop-request : goal.invariant-loop-request
invariant-loop-request g l = record {
  moved : HandsOutSome l.initial.end.rest l.end.rest;
  same : run_of l.end ≡ run_of l.initial.end;
  list : l.requests.items ≡ left_of l.end;
}

abbrev pub decreases-loop-request : goal.decreases-loop-request
decreases-loop-request g l = to_hand_out l.end.rest
