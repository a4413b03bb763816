-- Permitted histories whose actions are for their cause: what a policy may claim beyond safety.
use Rattle.std.specs.Prelude.{◌⊎◌, List}
use Rattle.cal_machine.specs.Table.{Table, IsTable}
use Rattle.cal_policy.specs.declared.history.action.Action.{Action}
use Rattle.cal_policy.specs.declared.history.action.Action.TheVariants.{Free, Unban, Ban}
use Rattle.cal_policy.specs.declared.history.action.Action.TheVariants.{Revoke, Cap, Grant}
use Rattle.cal_policy.specs.declared.history.entry.PassEntry.{PassEntry}
use Rattle.cal_policy.specs.Setting.{Setting, so_far}
use Rattle.cal_policy.specs.Pass.{IsLegal}
use Rattle.cal_laws.specs.Bans.{IsDueBan, HasEnded}
use Rattle.cal_laws.specs.Caps.{IsVictimsCap, IsRaisedCap}
use Rattle.cal_laws.specs.Cause.{HasCause}
use Rattle.cal_laws.specs.Safe.{EachAction}
use Rattle.cal_guard.specs.Permitted.{IsPermittedHistory}

-- a revocation has its cause, a ban is due, a ban that ends is no longer shown, a cap is due; a
-- free core and a grant ask for no cause
abbrev pub IsForItsCause : Setting → List Action → Action → Type 0
IsForItsCause s acts (Revoke core cause) = HasCause s acts core cause
IsForItsCause s acts (Ban core thread started) = IsDueBan s (so_far s acts) core thread started
IsForItsCause s acts (Unban core) = HasEnded s (so_far s acts) core
IsForItsCause s acts (Cap task cap) =
    IsVictimsCap s (so_far s acts) task cap ⊎ IsRaisedCap s (so_far s acts) task cap
IsForItsCause s acts (Free core) = Unit {0}
IsForItsCause s acts (Grant core thread class) = Unit {0}

-- a permitted history in which each action is for its cause
pub record IsRightHistory (table : Table) (history : List PassEntry) : Type 0 where
  pub permitted : IsPermittedHistory table history
  pub causes : EachAction IsForItsCause table history

abbrev pub LegalIsRight : Type 0
LegalIsRight = (table : Table) (history : List PassEntry) → IsTable table → IsLegal table history →
    IsRightHistory table history
