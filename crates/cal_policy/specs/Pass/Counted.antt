-- How many cores are lacking, once that was counted in a part of a pass.
use Rattle.std.specs.Prelude.{◌≡◌, ℕ, List, Option}
use Rattle.std.specs.Option.{IfSome}
use Rattle.cal_policy.specs.declared.history.action.Action.{Action}
use Rattle.cal_policy.specs.Assured.Short.{lacking}
use Rattle.cal_policy.specs.Setting.{Setting}

-- the count, where it was made, is what all short tasks lack that wait, after the actions x
abbrev pub Counts : Setting → List Action → Option ℕ → Type 0
Counts s x counted = IfSome counted (λ n. n ≡ lacking s x)
