use Rattle.cal_policy.proofs.Common.{◌≡◌, ◌≤◌, List, Action, is_task, owed_to, count_below, Agrees}
use Rattle.cal_policy.proofs.pass.assured.kept.owed_below.Given as goal

abbrev pub invariant-loop-lower : goal.invariant-loop-lower
invariant-loop-lower l = record {
  count : (x : List Action) → Agrees l.board x → l.count ≡ count_below (λ c. is_task l.task (owed_to x c)) l.lower;
  few : l.count ≤ l.lower;
}
