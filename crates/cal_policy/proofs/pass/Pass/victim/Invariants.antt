use Rattle.cal_policy.proofs.Common.{◌≡◌, ℕ, ◌<◌, List, get_or, None, nat_lt, IfSome, Action, Begun, so_far, best_below, core_to_lose, victim_rank, Stands, setting_in}
use Rattle.cal_policy.proofs.pass.Pass.victim.Given as goal

abbrev pub invariant-loop-t : goal.invariant-loop-t
invariant-loop-t l = record {
  victim : (h : Begun) (acts : List Action) → Stands l.board (setting_in l.self h) acts → let s = setting_in l.self h in
      ((t : ℕ) → t < 16 → get_or l.highest t None ≡ core_to_lose s (so_far s acts) t) →
      l.best ≡ best_below (λ rank best. nat_lt best rank) (victim_rank s (so_far s acts)) l.t;
  below : IfSome l.best (λ best. best.number < l.t);
}
