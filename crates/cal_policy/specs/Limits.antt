-- The most actions of a pass and passes of a history. The other definitions cite the constants of
-- the code alone. Each number is here once: a constant with another number is refused.
use Rattle.std.specs.Prelude.{◌≡◌, ◌^◌, refl}
use Rattle.cal_policy.specs.declared.history.action_list.TheConstants.{MOST_ACTIONS}
use Rattle.cal_policy.specs.declared.history.entry.TheConstants.{MOST_PASSES}

pub most_actions-is : MOST_ACTIONS ≡ 338
most_actions-is = refl

pub most_passes-is : MOST_PASSES ≡ 2 ^ 20
most_passes-is = refl
