-- The fourth part of a pass: over the bandwidth limit one best-effort task loses a core, else one
-- gets back a step of its cap. (After Caladan's bandwidth controller; the exact rule is
-- Doranjei's own.)
use Rattle.std.specs.Prelude.{ℕ, ◌+◌, ◌-◌, ◌==◌, ◌&&◌, Bool, false, not, nat_lt, List}
use Rattle.std.specs.Prelude.{[], ◌∷◌, length, Option, Some, None, if◌then◌else◌}
use Rattle.std.specs.Option.{is_some}
use Rattle.cal_machine.specs.TableTasks.{thread_of, limit_of, is_latency_critical}
use Rattle.cal_policy.specs.declared.history.action.Action.{Action}
use Rattle.cal_policy.specs.declared.history.action.Action.TheVariants.{Revoke, Cap}
use Rattle.cal_policy.specs.declared.history.action.Cause.TheVariants as causes
use Rattle.cal_policy.specs.declared.pass.choice.Candidate.{Candidate}
use Rattle.cal_policy.specs.Pass.Choice.{sum_below, best_below, highest_below, lowest_below}
use Rattle.cal_policy.specs.History.{holder_of}
use Rattle.cal_policy.specs.Board.Counts.{is_held_for, held_by, cap_of}
use Rattle.cal_policy.specs.Setting.{Setting, so_far, kept_now, kept_before, is_held_with_room}

-- core c is held by a thread of task t whose ring has room
abbrev pub can_lose : Setting → List Action → ℕ → ℕ → Bool
can_lose s x t c = is_held_for s.table t (holder_of x c) && is_held_with_room s (holder_of x c)

-- a number found, and it is t
abbrev pub is_number : ℕ → Option ℕ → Bool
is_number t None = false
is_number t (Some number) = number == t

-- the core that task t would lose: the highest of those
abbrev pub core_to_lose : Setting → List Action → ℕ → Option ℕ
core_to_lose s x t = highest_below (can_lose s x t) s.table.cores

-- the misses of thread k since the pass before
abbrev pub new_misses : Setting → ℕ → ℕ
new_misses s k = (kept_now s k).misses - (kept_before s k).misses

-- the misses of all threads of task t since the pass before
abbrev pub task_misses : Setting → ℕ → ℕ
task_misses s t = sum_below (λ j. new_misses s (thread_of s.table t j)) (limit_of s.table t)

-- a task that may be the victim: best-effort, with a core that it can lose; its rank is its misses
abbrev pub victim_rank : Setting → List Action → ℕ → Option ℕ
victim_rank s x t = if not (is_latency_critical s.table t) && is_some (core_to_lose s x t)
    then Some (task_misses s t) else None

-- the victim: the task with the most misses, of those with as many the one with the least number
abbrev pub victim_of : Setting → List Action → Option (Candidate ℕ)
victim_of s x = best_below (λ rank best. nat_lt best rank) (victim_rank s x) (length s.table.tasks)

-- the victim's cap is one below what it holds, and its highest core is revoked
abbrev pub cut_at : Setting → List Action → ℕ → Option ℕ → List Action
cut_at s x t None = []
cut_at s x t (Some core) = Cap t (held_by s.table x t - 1) ∷ Revoke core causes.Bandwidth ∷ []

abbrev pub cut_of : Setting → List Action → Option (Candidate ℕ) → List Action
cut_of s x None = []
cut_of s x (Some victim) = cut_at s x victim.number (core_to_lose s x victim.number)

-- a best-effort task below its limit by its cap
abbrev pub is_capped : Setting → List Action → ℕ → Bool
is_capped s x t = not (is_latency_critical s.table t) && nat_lt (cap_of s.table x t)
    (limit_of s.table t)

-- a task's cap is raised by one
abbrev pub rise_of : Setting → List Action → Option ℕ → List Action
rise_of s x None = []
rise_of s x (Some t) = Cap t (cap_of s.table x t + 1) ∷ []

-- strictly above the limit the victim is cut, else the least-numbered capped task rises
abbrev pub bandwidth_after : Setting → List Action → List Action
bandwidth_after s x =
    if nat_lt s.table.bandwidth_limit s.input.bandwidth
    then cut_of s x (victim_of s x)
    else rise_of s x (lowest_below (is_capped s x) (length s.table.tasks))

abbrev pub bandwidth_part : Setting → List Action → List Action
bandwidth_part s acts = bandwidth_after s (so_far s acts)
