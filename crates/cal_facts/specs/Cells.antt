-- The cells of a row.
use Rattle.std.specs.Prelude.{ℕ, List, [], decimal, map, nat_lt, Bool}
use Rattle.std.specs.Prelude.{Option, Some, None, if◌then◌else◌}
use Rattle.cal_machine.specs.Table.{Table}
use Rattle.cal_machine.specs.TableTasks.{owner_of, threads_of_table}
use Rattle.cal_policy.specs.declared.history.entry.PassEntry.{PassEntry}

-- a number, or nothing where there is none
abbrev pub cell : Option ℕ → List ℕ
cell None = []
cell (Some n) = decimal n

-- whether something is so, as a number
abbrev pub truth_number : Bool → ℕ
truth_number truth = if truth then 1 else 0

-- the task of a thread, where the table has the thread
abbrev pub task_in : Table → ℕ → Option ℕ
task_in table thread =
    if nat_lt thread (threads_of_table table) then Some (owner_of table thread) else None

-- the clock of each pass
abbrev pub clocks_of : List PassEntry → List ℕ
clocks_of history = map (λ entry. entry.input.now) history
