use Rattle.cal_measure.proofs.Common.{◌≡◌, List, KeepingAgrees, kept_by, greatest_below, record_delay, thread_of}
use Rattle.cal_policy.specs.declared.history.look.Seen.{Seen}
use Rattle.cal_measure.proofs.states.task_delay.Given as goal

abbrev pub invariant-loop-j : goal.invariant-loop-j
invariant-loop-j l = (looks : List (List Seen)) → KeepingAgrees l.board.keeping looks →
    l.greatest ≡ greatest_below (λ j. record_delay l.clock (kept_by looks (thread_of l.config l.task j))) l.j
