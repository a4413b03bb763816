use Rattle.cal_policy.proofs.Common.{◌≡◌, ℕ, ◌<◌, List, get_or, None, Action, Begun, so_far, highest_below, can_lose, Stands, HoldsCore, setting_in}
use Rattle.cal_policy.proofs.pass.Pass.cores_to_lose.Given as goal

abbrev pub invariant-loop-core : goal.invariant-loop-core
invariant-loop-core l = record {
  lose : (h : Begun) (acts : List Action) → let s = setting_in l.self h in Stands l.board s acts →
      (t : ℕ) → t < 16 → get_or l.highest t None ≡ highest_below (can_lose s (so_far s acts) t) l.core;
  held : (t : ℕ) → t < 16 → HoldsCore l.self.config.now l.board t (get_or l.highest t None);
}
