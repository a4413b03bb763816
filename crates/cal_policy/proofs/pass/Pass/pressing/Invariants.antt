use Rattle.cal_policy.proofs.Common.{◌≡◌, ◌+◌, ◌-◌, ◌≤◌, List, thread_of, Action, presses, setting_in, count_below, Begun, so_far, Stands}
use Rattle.cal_policy.proofs.pass.Pass.pressing.Given as goal

abbrev pub invariant-loop-next : goal.invariant-loop-next
invariant-loop-next l = record {
  count : (h : Begun) (acts : List Action) → let s = setting_in l.self h in Stands l.board s acts →
      l.pressing ≡ count_below (λ j. presses s (so_far s acts) (thread_of s.table l.task j)) (l.next - l.first);
  few : l.pressing ≤ l.next - l.first;
  from : l.first ≤ l.next;
  to : l.next ≤ l.first + l.count;
}

abbrev pub decreases-loop-next : goal.decreases-loop-next
decreases-loop-next l = l.first + l.count - l.next
