-- A policy, as a number.
use Rattle.std.specs.Prelude.{ℕ, ◌==◌, Option, Some, None, if◌then◌else◌}
use Rattle.cal_policy.specs.declared.policy.Policy.{Policy}
use Rattle.cal_policy.specs.declared.policy.Policy.TheVariants.{Caladan, Assured}

-- the policy of this number
abbrev pub policy_numbered : ℕ → Option Policy
policy_numbered number =
    if number == 0 then Some Caladan else if number == 1 then Some Assured else None
