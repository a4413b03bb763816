use Rattle.cal_policy.proofs.Common.{◌≡◌, List, None, Action, Begun, so_far, lowest_below, is_capped, Stands, setting_in}
use Rattle.cal_policy.proofs.pass.Pass.first_rise.Given as goal

abbrev pub invariant-loop-t : goal.invariant-loop-t
invariant-loop-t l = (h : Begun) (acts : List Action) → Stands l.board (setting_in l.self h) acts →
    let s = setting_in l.self h in lowest_below (is_capped s (so_far s acts)) l.t ≡ None
