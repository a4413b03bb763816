-- How many cores tasks and threads have after the actions so far.
use Rattle.std.specs.Prelude.{ℕ, ◌==◌, Bool, true, false, nat_lt, List}
use Rattle.std.specs.Option.{unwrap_or}
use Rattle.cal_machine.specs.Table.{Table}
use Rattle.cal_machine.specs.TableTasks.{owner_of, limit_of, guaranteed_of}
use Rattle.cal_policy.specs.declared.history.action.Action.{Action}
use Rattle.cal_policy.specs.declared.board.holders.Holder.{Holder}
use Rattle.cal_policy.specs.declared.board.holders.Holder.TheVariants.{Free, Held, Leaving}
use Rattle.cal_policy.specs.Pass.Choice.{count_below}
use Rattle.cal_policy.specs.History.{holder_of, last_cap}

-- nobody has the core
abbrev pub is_free : Holder → Bool
is_free Free = true
is_free (Held placement) = false
is_free (Leaving placement cause) = false

-- the core is held, and not being left
abbrev pub is_held : Holder → Bool
is_held Free = false
is_held (Held placement) = true
is_held (Leaving placement cause) = false

-- the core is held by a thread of task t
abbrev pub is_held_for : Table → ℕ → Holder → Bool
is_held_for table t Free = false
is_held_for table t (Held placement) = owner_of table placement.thread == t
is_held_for table t (Leaving placement cause) = false

-- the core is held or being left by a thread of task t
abbrev pub is_booked_for : Table → ℕ → Holder → Bool
is_booked_for table t Free = false
is_booked_for table t (Held placement) = owner_of table placement.thread == t
is_booked_for table t (Leaving placement cause) = owner_of table placement.thread == t

-- the core is held or being left by thread k
abbrev pub is_with : ℕ → Holder → Bool
is_with k Free = false
is_with k (Held placement) = placement.thread == k
is_with k (Leaving placement cause) = placement.thread == k

-- how many cores the threads of task t hold
abbrev pub held_by : Table → List Action → ℕ → ℕ
held_by table x t = count_below (λ c. is_held_for table t (holder_of x c)) table.cores

-- how many cores the threads of task t hold or leave
abbrev pub booked_by : Table → List Action → ℕ → ℕ
booked_by table x t = count_below (λ c. is_booked_for table t (holder_of x c)) table.cores

-- how many cores thread k holds or leaves
abbrev pub cores_of_thread : Table → List Action → ℕ → ℕ
cores_of_thread table x k = count_below (λ c. is_with k (holder_of x c)) table.cores

-- task t holds more cores than it is guaranteed
abbrev pub is_over : Table → List Action → ℕ → Bool
is_over table x t = nat_lt (guaranteed_of table t) (held_by table x t)

-- the cap of task t: that of the last Cap that names it, else its limit
abbrev pub cap_of : Table → List Action → ℕ → ℕ
cap_of table x t = unwrap_or (last_cap x t) (limit_of table t)
