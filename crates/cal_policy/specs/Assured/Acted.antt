-- Whether a task has acted in a pass: it was granted a core, or one was revoked for it.
use Rattle.std.specs.Prelude.{ℕ, ◌&&◌, ◌||◌, Bool, false, nat_le, nat_lt, List, [], ◌∷◌}
use Rattle.cal_machine.specs.Table.{Table}
use Rattle.cal_machine.specs.TableTasks.{thread_of, limit_of}
use Rattle.cal_policy.specs.declared.history.action.Action.{Action}
use Rattle.cal_policy.specs.declared.history.action.Action.TheVariants.{Free, Unban, Ban}
use Rattle.cal_policy.specs.declared.history.action.Action.TheVariants.{Revoke, Cap, Grant}
use Rattle.cal_policy.specs.Pass.Grants.{is_for}

-- thread k is one of task t
abbrev pub is_own : Table → ℕ → ℕ → Bool
is_own table t k = nat_le (thread_of table t 0) k && nat_lt k (thread_of table t (limit_of table t))

-- the action grants a core to a thread of task t, or revokes one for the task
abbrev pub is_act_of : Table → ℕ → Action → Bool
is_act_of table t (Grant core thread class) = is_own table t thread
is_act_of table t (Revoke core cause) = is_for t cause
is_act_of table t (Free core) = false
is_act_of table t (Unban core) = false
is_act_of table t (Ban core thread started) = false
is_act_of table t (Cap task cap) = false

-- among these actions is one for task t
abbrev pub has_acted : Table → List Action → ℕ → Bool
has_acted table [] t = false
has_acted table (a ∷ acts) t = is_act_of table t a || has_acted table acts t
