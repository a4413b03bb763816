-- Free cores that are owed to a task: they were revoked for it.
use Rattle.std.specs.Prelude.{ℕ, ◌==◌, Bool, false, List, Option, Some, None, if◌then◌else◌}
use Rattle.std.specs.Option.{unwrap_or}
use Rattle.cal_policy.specs.declared.history.action.Action.{Action}
use Rattle.cal_policy.specs.declared.history.action.Action.TheVariants.{Free, Unban, Ban}
use Rattle.cal_policy.specs.declared.history.action.Action.TheVariants.{Revoke, Cap, Grant}
use Rattle.cal_policy.specs.declared.history.action.Cause.{Cause}
use Rattle.cal_policy.specs.declared.history.action.Cause.TheVariants as causes
use Rattle.cal_policy.specs.declared.board.holders.Holder.{Holder}
use Rattle.cal_policy.specs.declared.board.holders.Holder.TheVariants as holders
use Rattle.cal_policy.specs.History.Lists.{last_of}
use Rattle.cal_policy.specs.History.{holder_of}
use Rattle.cal_policy.specs.Pass.Choice.{count_below}

-- the task for which a cause takes a core
abbrev pub task_of_cause : Cause → Option ℕ
task_of_cause (causes.Preempt task) = Some task
task_of_cause (causes.Ban by) = None
task_of_cause causes.Bandwidth = None

-- the task for which a core is being left
abbrev pub left_for : Holder → Option ℕ
left_for holders.Free = None
left_for (holders.Held placement) = None
left_for (holders.Leaving placement cause) = task_of_cause cause

-- what an action that names core c makes of the task to which it is owed: a Free of a core that is
-- being left for a task owes it to that task
abbrev pub owed_made : ℕ → List Action → Action → Option (Option ℕ)
owed_made c before (Free core) =
    if core == c then Some (left_for (holder_of before core)) else None
owed_made c before (Revoke core cause) = if core == c then Some None else None
owed_made c before (Grant core thread class) = if core == c then Some None else None
owed_made c before (Unban core) = None
owed_made c before (Ban core thread started) = None
owed_made c before (Cap task cap) = None

-- the task to which core c is owed: the last Free, Revoke or Grant that names the core is a Free,
-- and the one before that is a Revoke for this task
abbrev pub owed_to : List Action → ℕ → Option ℕ
owed_to x c = unwrap_or (last_of (owed_made c) x) None

-- a task, and it is u
abbrev pub is_task : ℕ → Option ℕ → Bool
is_task u None = false
is_task u (Some task) = task == u

-- how many of the cores owed to task u have a number below c; such a core is free, and may be banned
abbrev pub owed_below : List Action → ℕ → ℕ → ℕ
owed_below x u c = count_below (λ lower. is_task u (owed_to x lower)) c
