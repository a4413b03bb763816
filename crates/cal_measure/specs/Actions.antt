-- What the passes of a history did to the cores of a task, counted. Each action is told those
-- before it.
use Rattle.std.specs.Prelude.{◌≡◌, ℕ, ◌==◌, ◌&&◌, Bool, true, false, not, List, [], ◌∷◌, length}
use Rattle.std.specs.Prelude.{Option, Some, None, nat_lt, if◌then◌else◌}
use Rattle.cal_machine.specs.Table.{Table}
use Rattle.cal_policy.specs.Board.Counts.{cap_of, is_held_for}
use Rattle.cal_policy.specs.History.{ban_of, holder_of}
use Rattle.cal_policy.specs.History.CoreClasses.{class_number}
use Rattle.cal_policy.specs.History.Lists.{each_of}
use Rattle.cal_machine.specs.TableTasks.{owner_of}
use Rattle.cal_policy.specs.declared.board.bans.BannedFor.{BannedFor}
use Rattle.cal_policy.specs.declared.history.action.Action.{Action}
use Rattle.cal_policy.specs.declared.history.action.Action.TheVariants.{Free, Unban, Ban}
use Rattle.cal_policy.specs.declared.history.action.Action.TheVariants.{Revoke, Cap, Grant}
use Rattle.cal_policy.specs.declared.history.action.Cause.{Cause}
use Rattle.cal_policy.specs.declared.history.action.Cause.TheVariants as causes
use Rattle.cal_policy.specs.declared.history.core_class.CoreClass.{CoreClass}
use Rattle.cal_policy.specs.declared.history.core_class.CoreClass.TheVariants as classes
use Rattle.cal_measure.specs.declared.actions.LossKind.{LossKind}
use Rattle.cal_measure.specs.declared.actions.LossKind.TheVariants as kinds
use Rattle.cal_measure.specs.declared.cores.TaskActions.{TaskActions}

-- the action, if it is such
abbrev pub if_such : (List Action → Action → Bool) → List Action → Action → List Action
if_such such before action = if such before action then action ∷ [] else []

-- how many of these actions are such
abbrev pub many_of : (List Action → Action → Bool) → List Action → ℕ
many_of such x = length (each_of (if_such such) x)

-- it grants a thread of task t a core, for this class
abbrev pub is_grant : Table → ℕ → CoreClass → List Action → Action → Bool
is_grant table t n before (Grant core thread class) =
    (owner_of table thread == t) && (class == class_number n)
is_grant table t n before (Free core) = false
is_grant table t n before (Unban core) = false
is_grant table t n before (Ban core thread started) = false
is_grant table t n before (Revoke core cause) = false
is_grant table t n before (Cap task cap) = false

-- a cause is of this kind
abbrev pub is_of_kind : LossKind → Cause → Bool
is_of_kind kinds.Ban (causes.Ban by) = true
is_of_kind kinds.Ban causes.Bandwidth = false
is_of_kind kinds.Ban (causes.Preempt task) = false
is_of_kind kinds.Bandwidth (causes.Ban by) = false
is_of_kind kinds.Bandwidth causes.Bandwidth = true
is_of_kind kinds.Bandwidth (causes.Preempt task) = false
is_of_kind kinds.Task (causes.Ban by) = false
is_of_kind kinds.Task causes.Bandwidth = false
is_of_kind kinds.Task (causes.Preempt task) = true

-- it revokes, for a cause of this kind, a core that a thread of task t holds
abbrev pub is_loss : Table → ℕ → LossKind → List Action → Action → Bool
is_loss table t kind before (Revoke core cause) =
    is_held_for table t (holder_of before core) && is_of_kind kind cause
is_loss table t kind before (Free core) = false
is_loss table t kind before (Unban core) = false
is_loss table t kind before (Ban core thread started) = false
is_loss table t kind before (Cap task cap) = false
is_loss table t kind before (Grant core thread class) = false

-- a core with this ban is banned for a thread of task t
abbrev pub is_banned_for : Table → ℕ → Option BannedFor → Bool
is_banned_for table t None = false
is_banned_for table t (Some ban) = owner_of table ban.thread == t

-- a core with this ban is revoked for task t: since it is congested, or for the ban, where that is
-- for one of its threads
abbrev pub is_revoked_for : Table → ℕ → Option BannedFor → Cause → Bool
is_revoked_for table t ban (causes.Ban by) = is_banned_for table t ban
is_revoked_for table t ban causes.Bandwidth = false
is_revoked_for table t ban (causes.Preempt task) = task == t

-- it revokes for task t a core that none of its threads holds
abbrev pub is_taking : Table → ℕ → List Action → Action → Bool
is_taking table t before (Revoke core cause) =
    not (is_held_for table t (holder_of before core))
    && is_revoked_for table t (ban_of before core) cause
is_taking table t before (Free core) = false
is_taking table t before (Unban core) = false
is_taking table t before (Ban core thread started) = false
is_taking table t before (Cap task cap) = false
is_taking table t before (Grant core thread class) = false

-- it gives task t a cap below the one that it had
abbrev pub is_cut : Table → ℕ → List Action → Action → Bool
is_cut table t before (Cap task cap) = (task == t) && nat_lt cap (cap_of table before t)
is_cut table t before (Free core) = false
is_cut table t before (Unban core) = false
is_cut table t before (Ban core thread started) = false
is_cut table t before (Revoke core cause) = false
is_cut table t before (Grant core thread class) = false

-- it gives task t a cap above the one that it had
abbrev pub is_raise : Table → ℕ → List Action → Action → Bool
is_raise table t before (Cap task cap) = (task == t) && nat_lt (cap_of table before t) cap
is_raise table t before (Free core) = false
is_raise table t before (Unban core) = false
is_raise table t before (Ban core thread started) = false
is_raise table t before (Revoke core cause) = false
is_raise table t before (Grant core thread class) = false

-- it bans a core for a thread of task t
abbrev pub is_ban : Table → ℕ → List Action → Action → Bool
is_ban table t before (Ban core thread started) = owner_of table thread == t
is_ban table t before (Free core) = false
is_ban table t before (Unban core) = false
is_ban table t before (Revoke core cause) = false
is_ban table t before (Cap task cap) = false
is_ban table t before (Grant core thread class) = false

-- the numbers are those of what these actions did to the cores of task t
pub record AreActionsOf (table : Table) (t : ℕ) (x : List Action)
    (numbers : TaskActions) : Type 0 where
  pub grants_beside : numbers.grants_beside ≡ many_of (is_grant table t classes.Sibling) x
  pub grants_again : numbers.grants_again ≡ many_of (is_grant table t classes.RecentlyUsed) x
  pub grants_other : numbers.grants_other ≡ many_of (is_grant table t classes.OtherIdle) x
  pub lost_to_bans : numbers.lost_to_bans ≡ many_of (is_loss table t kinds.Ban) x
  pub lost_to_bandwidth : numbers.lost_to_bandwidth ≡ many_of (is_loss table t kinds.Bandwidth) x
  pub lost_to_tasks : numbers.lost_to_tasks ≡ many_of (is_loss table t kinds.Task) x
  pub taken_from_others : numbers.taken_from_others ≡ many_of (is_taking table t) x
  pub cuts : numbers.cuts ≡ many_of (is_cut table t) x
  pub raises : numbers.raises ≡ many_of (is_raise table t) x
  pub bans : numbers.bans ≡ many_of (is_ban table t) x

-- the action counts for nothing that is done to the cores of task t
pub record IsNothingTo (table : Table) (t : ℕ) (before : List Action)
    (action : Action) : Type 0 where
  pub is_no_grant : (class : CoreClass) → is_grant table t class before action ≡ false
  pub is_no_loss : (kind : LossKind) → is_loss table t kind before action ≡ false
  pub is_no_taking : is_taking table t before action ≡ false
  pub is_no_cut : is_cut table t before action ≡ false
  pub is_no_raise : is_raise table t before action ≡ false
  pub is_no_ban : is_ban table t before action ≡ false
