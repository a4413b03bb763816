use Rattle.cal_measure.proofs.Common.{◌≡◌, thread_of, joined_below, left_at}
use Rattle.cal_measure.proofs.requests.task_left.Given as goal

abbrev pub invariant-loop-j : goal.invariant-loop-j
invariant-loop-j l = l.requests.items ≡ joined_below (λ j. left_at l.left (thread_of l.config l.task j)) l.j
