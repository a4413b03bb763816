-- The tasks of a table and their kernel threads, numbered from 0 in task order.
use Rattle.std.specs.Prelude.{◌+◌, ◌-◌, ℕ, Bool, true, false, List, [], ◌∷◌}
use Rattle.std.specs.Prelude.{nat_lt, take, sum_by, slice_index_or, if◌then◌else◌}
use Rattle.cal_machine.specs.declared.task.Task.{Task}
use Rattle.cal_machine.specs.declared.task.Kind.{Kind}
use Rattle.cal_machine.specs.declared.task.Kind.TheVariants.{LatencyCritical, BestEffort}

-- whether a task is best-effort: it gets only cores that latency-critical tasks do not need
abbrev pub is_best_effort : Kind → Bool
is_best_effort LatencyCritical = false
is_best_effort BestEffort = true

-- What stands for a task past the end of the table, of which nothing is ever asked: it may have
-- nothing.
abbrev pub no_task : Task
no_task = record { kind = LatencyCritical; guaranteed = 0; limit = 0; delay = 0; request = 0 }

-- The task of this number.
abbrev pub task_at : List Task → ℕ → Task
task_at tasks t = slice_index_or tasks t no_task

-- How many kernel threads the tasks have in all: each has as many as its limit.
abbrev pub threads_in : List Task → ℕ
threads_in tasks = sum_by (λ task. task.limit) tasks

-- How many cores the tasks are guaranteed in all.
abbrev pub guaranteed_in : List Task → ℕ
guaranteed_in tasks = sum_by (λ task. task.guaranteed) tasks

-- The first kernel thread of a task: as many come before it as the tasks before have.
abbrev pub first_thread : List Task → ℕ → ℕ
first_thread tasks t = threads_in (take t tasks)

-- The task of a kernel thread: the first task has the first `limit` threads, the others the rest.
unfoldable pub task_of : List Task → ℕ → ℕ
task_of [] k = 0
task_of (task ∷ tasks) k = if nat_lt k task.limit then 0 else task_of tasks (k - task.limit) + 1
