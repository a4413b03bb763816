use Rattle.cal_policy.proofs.Common.{◌≡◌, ◌≤◌, List, thread_of, Action, helps_newly, setting_in, count_below, Begun, so_far, Stands}
use Rattle.cal_policy.proofs.pass.Pass.new_helpers.Given as goal

abbrev pub invariant-loop-j : goal.invariant-loop-j
invariant-loop-j l = record {
  count : (h : Begun) (acts : List Action) → let s = setting_in l.self h in Stands l.board s acts →
      l.helpers ≡ count_below (λ j. helps_newly s (so_far s acts) (thread_of s.table l.task j)) l.j;
  few : l.helpers ≤ l.j;
}
