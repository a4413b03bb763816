use Rattle.cal_policy.proofs.Common.{◌≡◌, ℕ, List, None, nat_lt, thread_of, Action, setting_in, best_below, thread_rank, Begun, so_far, Stands}
use Rattle.cal_policy.proofs.pass.Pass.has_thread.Given as goal

abbrev pub invariant-loop-j : goal.invariant-loop-j
invariant-loop-j l = (h : Begun) (acts : List Action) → Stands l.board (setting_in l.self h) acts →
    let s = setting_in l.self h in
    best_below (λ rank best. nat_lt best rank) (λ (j : ℕ). thread_rank s (so_far s acts) (thread_of l.self.config.now l.task j)) l.j ≡ None
