use Rattle.cal_policy.proofs.Common.{◌≡◌, ◌<◌, List, nat_lt, IfSome, Action, Begun, so_far, thread_of, best_below, thread_rank, Stands, setting_in}
use Rattle.cal_policy.proofs.pass.Pass.choose_thread.Given as goal

abbrev pub invariant-loop-j : goal.invariant-loop-j
invariant-loop-j l = record {
  choice : (h : Begun) (acts : List Action) → Stands l.board (setting_in l.self h) acts →
      l.best ≡ best_below (λ rank best. nat_lt best rank)
      (λ j. thread_rank (setting_in l.self h) (so_far (setting_in l.self h) acts) (thread_of l.self.config.now l.task j)) l.j;
  below : IfSome l.best (λ best. best.number < l.j);
}
