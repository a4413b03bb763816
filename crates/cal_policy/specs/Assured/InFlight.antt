-- Threads that are late, and cores that are on their way to a task.
use Rattle.std.specs.Prelude.{ℕ, ◌==◌, ◌&&◌, Bool, false, not, nat_lt, List, length, drop}
use Rattle.cal_signal.specs.declared.record.Record.{Record}
use Rattle.cal_machine.specs.TableTasks.{owner_of, thread_of, limit_of, delay_of}
use Rattle.cal_policy.specs.declared.history.action.Action.{Action}
use Rattle.cal_policy.specs.declared.board.holders.Holder.{Holder}
use Rattle.cal_policy.specs.declared.board.holders.Holder.TheVariants as holders
use Rattle.cal_policy.specs.History.{actions_of, holder_of}
use Rattle.cal_policy.specs.Pass.Choice.{count_below}
use Rattle.cal_policy.specs.Pass.Grants.{thread_delay, leaves_for, is_granted_in}
use Rattle.cal_policy.specs.Setting.{Setting, kept_now}

-- the core is held by thread k, by a Run that the record has not taken
abbrev pub is_untaken : Record → ℕ → Holder → Bool
is_untaken rec k holders.Free = false
is_untaken rec k (holders.Held placement) =
    (placement.thread == k) && nat_lt rec.taken placement.number
is_untaken rec k (holders.Leaving placement cause) = false

-- in flight, of thread k: it holds a core by a Run that its kept record has not taken
abbrev pub is_in_flight : Setting → List Action → ℕ → Bool
is_in_flight s x k =
    not (count_below (λ c. is_untaken (kept_now s k) k (holder_of x c)) s.table.cores == 0)

-- late, of thread k: its delay is strictly above its task's threshold
abbrev pub is_late : Setting → ℕ → Bool
is_late s k = nat_lt (delay_of s.table (owner_of s.table k)) (thread_delay s k)

-- thread k is late and not in flight
abbrev pub presses : Setting → List Action → ℕ → Bool
presses s x k = is_late s k && not (is_in_flight s x k)

-- thread k is in flight and not late
abbrev pub helps : Setting → List Action → ℕ → Bool
helps s x k = is_in_flight s x k && not (is_late s k)

-- how many threads of task t are late and not in flight
abbrev pub pressing : Setting → List Action → ℕ → ℕ
pressing s x t = count_below (λ j. presses s x (thread_of s.table t j)) (limit_of s.table t)

-- how many threads of task t are in flight and not late
abbrev pub helpers : Setting → List Action → ℕ → ℕ
helpers s x t = count_below (λ j. helps s x (thread_of s.table t j)) (limit_of s.table t)

-- of all actions x so far those of this pass
abbrev pub made_now : Setting → List Action → List Action
made_now s x = drop (length (actions_of s.history)) x

-- in flight since this pass, of thread k: the core that it holds by an untaken Run was granted in this
-- pass
abbrev pub is_new_in_flight : Setting → List Action → ℕ → Bool
is_new_in_flight s x k = not (count_below
    (λ c. is_granted_in (made_now s x) c && is_untaken (kept_now s k) k (holder_of x c)) s.table.cores
    == 0)

-- thread k is in flight since this pass and not late
abbrev pub helps_newly : Setting → List Action → ℕ → Bool
helps_newly s x k = is_new_in_flight s x k && not (is_late s k)

-- how many helpers of task t were granted their cores in this pass
abbrev pub new_helpers : Setting → List Action → ℕ → ℕ
new_helpers s x t =
    count_below (λ j. helps_newly s x (thread_of s.table t j)) (limit_of s.table t)

-- how many cores are being left for task t
abbrev pub coming : Setting → List Action → ℕ → ℕ
coming s x t = count_below (λ c. leaves_for t (holder_of x c)) s.table.cores
