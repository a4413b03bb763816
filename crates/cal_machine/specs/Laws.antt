-- What follows from the definitions alone.
use Rattle.std.specs.Prelude.{◌≡◌, ◌≢◌, ◌≤◌, ◌<◌, ◌+◌, ◌↔◌, ℕ, List, length, Ok}
use Rattle.cal_machine.specs.Machine.{IsMachine, sibling_of}
use Rattle.cal_machine.specs.Reading.{table_in}
use Rattle.cal_machine.specs.Table.{Table, IsTable}
use Rattle.cal_machine.specs.Tasks.{task_at, threads_in, first_thread, task_of}
use Rattle.cal_machine.specs.declared.task.Task.{Task}

-- A core's sibling is another core of the machine, and the core is its sibling's sibling.
abbrev pub SiblingsArePairs : Type 0
SiblingsArePairs = (cores core : ℕ) → IsMachine cores → core < cores
    → (sibling_of core < cores) × (sibling_of core ≢ core) × (sibling_of (sibling_of core) ≡ core)

-- A kernel thread is of a task exactly where it is one of the task's threads: to number the threads
-- of a task and to find the task of a thread undo each other.
abbrev pub ThreadsAreOfTheirTask : Type 0
ThreadsAreOfTheirTask = (tasks : List Task) (t k : ℕ) → t < length tasks → k < threads_in tasks
    → (task_of tasks k ≡ t) ↔ ((first_thread tasks t ≤ k)
    × (k < first_thread tasks t + (task_at tasks t).limit))

-- Each table that a text spells is within every limit.
abbrev pub AcceptedAreTables : Type 0
AcceptedAreTables = (text : List ℕ) (table : Table) → table_in text ≡ Ok table → IsTable table
