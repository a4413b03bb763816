use Rattle.cal_policy.proofs.Common.{◌≡◌, ◌≤◌, List, is_some, thread_of, Action, setting_in, count_below, thread_rank, Begun, so_far, Stands}
use Rattle.cal_policy.proofs.pass.Pass.spare.Given as goal

abbrev pub invariant-loop-j : goal.invariant-loop-j
invariant-loop-j l = record {
  count : (h : Begun) (acts : List Action) → let s = setting_in l.self h in Stands l.board s acts →
      l.spare ≡ count_below (λ j. is_some (thread_rank s (so_far s acts) (thread_of s.table l.task j))) l.j;
  few : l.spare ≤ l.j;
}
