-- When each action of a pass has its turn.
use Rattle.std.specs.Prelude.{ℕ, ◌+◌, ◌*◌, length, Option, Some, None, if◌then◌else◌}
use Rattle.cal_machine.specs.Table.{Table}
use Rattle.cal_machine.specs.Machine.{sibling_of}
use Rattle.cal_machine.specs.TableTasks.{owner_of, is_latency_critical}
use Rattle.cal_policy.specs.declared.history.action.Action.{Action}
use Rattle.cal_policy.specs.declared.history.action.Action.TheVariants.{Free, Unban, Ban}
use Rattle.cal_policy.specs.declared.history.action.Action.TheVariants.{Revoke, Cap, Grant}
use Rattle.cal_policy.specs.declared.history.action.Cause.TheVariants as causes

-- the task that an action of the last part is for: that of the thread that is granted a core, or
-- the one for which a core is revoked
abbrev pub task_served : Table → Action → Option ℕ
task_served table (Grant core thread class) = Some (owner_of table thread)
task_served table (Revoke core (causes.Preempt task)) = Some task
task_served table (Revoke core (causes.Ban by)) = None
task_served table (Revoke core causes.Bandwidth) = None
task_served table (Free core) = None
task_served table (Unban core) = None
task_served table (Ban core thread started) = None
task_served table (Cap task cap) = None

-- the latency-critical tasks come by number, then the best-effort tasks by number
abbrev pub place_of_task : Table → ℕ → ℕ
place_of_task table t = if is_latency_critical table t then t else length table.tasks + t

-- the turn of an action in its pass: of the cores upwards those that are freed, then those that are
-- unbanned, then each beside which a ban is made, with the ban and its revocation; a cap and its
-- revocation; then the tasks
abbrev pub turn_of : Table → Action → ℕ
turn_of table (Free core) = core
turn_of table (Unban core) = table.cores + core
turn_of table (Ban core thread started) = 2 * table.cores + 2 * sibling_of core
turn_of table (Revoke core (causes.Ban by)) = 2 * table.cores + 2 * by + 1
turn_of table (Cap task cap) = 4 * table.cores
turn_of table (Revoke core causes.Bandwidth) = 4 * table.cores + 1
turn_of table (Revoke core (causes.Preempt task)) = 4 * table.cores + 2 + place_of_task table task
turn_of table (Grant core thread class) =
    4 * table.cores + 2 + place_of_task table (owner_of table thread)
