use Rattle.cal_policy.proofs.Common.{◌≡◌, ◌*◌, ◌≤◌, ◌^◌, List, Action, Begun, thread_of, sum_below, new_misses, Stands, setting_in}
use Rattle.cal_policy.proofs.pass.Pass.task_misses.Given as goal

abbrev pub invariant-loop-j : goal.invariant-loop-j
invariant-loop-j l = record {
  sum : (h : Begun) (acts : List Action) → Stands l.board (setting_in l.self h) acts → let s = setting_in l.self h in
      l.misses ≡ sum_below (λ j. new_misses s (thread_of s.table l.task j)) l.j;
  small : l.misses ≤ l.j * 2 ^ 64;
}
