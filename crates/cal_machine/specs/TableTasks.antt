-- What the table says of a task, by its number.
use Rattle.std.specs.Prelude.{ℕ, ◌+◌, Bool, true, false}
use Rattle.cal_machine.specs.Table.{Table}
use Rattle.cal_machine.specs.Tasks.{task_at, first_thread}
use Rattle.cal_machine.specs.Tasks as numbering
use Rattle.cal_machine.specs.declared.task.Kind.{Kind}
use Rattle.cal_machine.specs.declared.task.Kind.TheVariants.{LatencyCritical, BestEffort}

-- a kind as a test
abbrev pub is_critical_kind : Kind → Bool
is_critical_kind LatencyCritical = true
is_critical_kind BestEffort = false

-- task t is latency-critical; else it is best-effort
abbrev pub is_latency_critical : Table → ℕ → Bool
is_latency_critical table t = is_critical_kind (task_at table.tasks t).kind

-- the most cores of task t, and its number of kernel threads
abbrev pub limit_of : Table → ℕ → ℕ
limit_of table t = (task_at table.tasks t).limit

-- the cores that task t may keep
abbrev pub guaranteed_of : Table → ℕ → ℕ
guaranteed_of table t = (task_at table.tasks t).guaranteed

-- the delay above which task t is congested
abbrev pub delay_of : Table → ℕ → ℕ
delay_of table t = (task_at table.tasks t).delay

-- the age of a request of task t above which its core's sibling is banned
abbrev pub request_of : Table → ℕ → ℕ
request_of table t = (task_at table.tasks t).request

-- how many kernel threads there are
abbrev pub threads_of_table : Table → ℕ
threads_of_table table = numbering.threads_in table.tasks

-- the task of kernel thread k
abbrev pub owner_of : Table → ℕ → ℕ
owner_of table k = numbering.task_of table.tasks k

-- the kernel thread of task t with number j among its own
abbrev pub thread_of : Table → ℕ → ℕ → ℕ
thread_of table t j = first_thread table.tasks t + j
