use Rattle.cal_policy.proofs.Common.{◌≡◌, ◌+◌, ◌-◌, ◌≤◌, List, Action, Begun, Stands, setting_in, thread_of, greatest_below, thread_delay}
use Rattle.cal_policy.proofs.pass.Pass.task_delay.Given as goal

abbrev pub invariant-loop-next : goal.invariant-loop-next
invariant-loop-next l = record {
  greatest : (h : Begun) (acts : List Action) → Stands l.board (setting_in l.self h) acts →
      l.greatest ≡ greatest_below (λ j. thread_delay (setting_in l.self h) (thread_of l.self.config.now l.task j)) (l.next - l.first);
  from : l.first ≤ l.next;
  to : l.next ≤ l.first + l.count;
}

abbrev pub decreases-loop-next : goal.decreases-loop-next
decreases-loop-next l = l.first + l.count - l.next
