-- The laws that a policy has of its own, by policy. Of Caladan's they are those of the other pages.
use Rattle.std.specs.Prelude.{◌≡◌, ℕ, ◌≤◌, List, length, Some, slice_get}
use Rattle.cal_machine.specs.Table.{IsTable}
use Rattle.cal_policy.specs.declared.history.action.Action.{Action}
use Rattle.cal_policy.specs.declared.history.action.Action.TheVariants.{Revoke}
use Rattle.cal_policy.specs.declared.history.action.Cause.{Cause}
use Rattle.cal_policy.specs.declared.policy.Policy.{Policy}
use Rattle.cal_policy.specs.declared.policy.Policy.TheVariants.{Caladan, Assured}
use Rattle.cal_policy.specs.Assured.Cause as assured
use Rattle.cal_policy.specs.Assured.Pass.{IsLegal}
use Rattle.cal_policy.specs.Setting.{Setting}
use Rattle.cal_laws.specs.Cause.{HasCause}
use Rattle.cal_laws.specs.Point.{Point, IsPoint, setting_at, made_at, next_at}

-- the point lies in a pass of a legal history of the second policy: before its first action, between
-- two, or after its last
pub record IsOwnPoint (here : Point) : Type 0 where
  pub table : IsTable here.table
  pub legal : IsLegal here.table here.history
  pub entry : slice_get here.history here.pass ≡ Some here.entry
  pub made : here.made ≤ length here.entry.actions

-- the point lies in a pass of a history of the policy
abbrev pub IsPointBy : Policy → Point → Type 0
IsPointBy Caladan here = IsPoint here
IsPointBy Assured here = IsOwnPoint here

-- a revocation of this core, after the actions acts of the pass, is for what its cause says
abbrev pub HasCauseBy : Policy → Setting → List Action → ℕ → Cause → Type 0
HasCauseBy Caladan s acts core cause = HasCause s acts core cause
HasCauseBy Assured s acts core cause = assured.HasCause s acts core cause

-- each revocation is for what its cause says
abbrev pub RevocationsHaveCauseBy : Type 0
RevocationsHaveCauseBy = (policy : Policy) (here : Point) → IsPointBy policy here →
    (core : ℕ) (cause : Cause) → next_at here ≡ Some (Revoke core cause) →
    HasCauseBy policy (setting_at here) (made_at here) core cause
