-- What a guard's answer makes of a guard.
use Rattle.caladan_c.proofs.Common.{◌≡◌, [], List, map, refl, subst, Action, PassEntry, Input, IsInput, board_in, IsStateAfter, ArePermitted, IsPermittedHistory, GuardView, WentThrough, WasStopped, told_of}
use Rattle.cal_policy.specs.Setting.{setting}
use Rattle.cal_guard.specs.declared.guard.Guard.{Guard}
use Rattle.cal_guard.specs.declared.refusal.Refused.{Refused}
use Rattle.cal_guard.specs.Guarded.{and_then}
use Rattle.cal_guard.specs.Refusals.{IsFirstWrong}
use Rattle.caladan_c.specs.declared.told.Told.{Told}

pub went_through : (g : GuardView) (h : List PassEntry) (input given : Input) (chosen : List Action) (told : List Told) (guard : Guard)
    → map told_of chosen ≡ told → input ≡ given → IsInput g.table h input → ArePermitted (setting g.table h input) chosen
    → IsStateAfter (board_in guard) (and_then h input chosen) → IsPermittedHistory g.table (and_then h input chosen)
    → WentThrough g h given told (record { table = g.table; guard = guard })
went_through g h input given chosen told guard are same is permitted keeps history =
    let new : GuardView = record { table = g.table; guard = guard } in
    let whole : WentThrough g h input told new = record {
      chosen = chosen;
      actions = are;
      input = is;
      permitted = permitted;
      table = refl;
      goes_on = history;
      after = keeps;
    } in
    subst (λ (i : Input). WentThrough g h i told new) same whole

pub was_stopped : (g : GuardView) (h : List PassEntry) (input given : Input) (chosen : List Action) (told : List Told) (refused : Refused)
    → map told_of chosen ≡ told → input ≡ given → IsInput g.table h input
    → IsFirstWrong (setting g.table h input) [] chosen refused → WasStopped g h given told refused
was_stopped g h input given chosen told refused are same is first =
    let whole : WasStopped g h input told refused = record { chosen = chosen; actions = are; input = is; first = first } in
    subst (λ (i : Input). WasStopped g h i told refused) same whole
