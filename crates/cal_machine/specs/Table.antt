-- The task table, and what every accepted one is.
use Rattle.std.specs.Prelude.{◌≡◌, ◌≤◌, ℕ, List, All, length}
use Rattle.cal_machine.specs.Machine.{IsMachine}
use Rattle.cal_machine.specs.Tasks.{threads_in, guaranteed_in}
use Rattle.cal_machine.specs.declared.task.Task.{Task}
use Rattle.cal_machine.specs.declared.task.Kind.TheVariants.{BestEffort}
use Rattle.cal_machine.specs.declared.numbering.TheConstants.{MOST_THREADS}
use Rattle.cal_machine.specs.declared.task_table.TheConstants.{MOST_TASKS, MOST_LIMIT, MOST_TICKS}

-- The task table: the number of cores, the bandwidth above which a best-effort task loses a core,
-- the tasks in order.
pub record Table : Type 0 where
  pub cores : ℕ
  pub bandwidth_limit : ℕ
  pub tasks : List Task

-- What each task of an accepted table is.
pub record IsTask (task : Task) : Type 0 where
  -- it may have a core
  pub some_limit : 1 ≤ task.limit
  -- and no more than MOST_LIMIT
  pub limit : task.limit ≤ MOST_LIMIT
  -- no more are guaranteed to it than it may have
  pub guaranteed : task.guaranteed ≤ task.limit
  -- no threshold is above the last tick
  pub delay : task.delay ≤ MOST_TICKS
  pub request : task.request ≤ MOST_TICKS
  -- nothing at all is guaranteed to a best-effort task
  pub best_effort : task.kind ≡ BestEffort → task.guaranteed ≡ 0

-- What each accepted table is.
pub record IsTable (table : Table) : Type 0 where
  -- its cores make a machine
  pub machine : IsMachine table.cores
  -- no threshold is above the last tick
  pub bandwidth_limit : table.bandwidth_limit ≤ MOST_TICKS
  -- it has a task
  pub some_task : 1 ≤ length table.tasks
  -- and no more than MOST_TASKS
  pub tasks : length table.tasks ≤ MOST_TASKS
  -- each task is within its limits
  pub each : All IsTask table.tasks
  -- together they are guaranteed no more cores than there are
  pub guarantees : guaranteed_in table.tasks ≤ table.cores
  -- and have at most MOST_THREADS kernel threads
  pub threads : threads_in table.tasks ≤ MOST_THREADS
