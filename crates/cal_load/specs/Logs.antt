-- The requests of a log, and what they make.
use Rattle.std.specs.Prelude.{◌≡◌, ◌<◌, ◌≤◌, ◌==◌, max, ℕ, List, [], ◌∷◌, ◌++◌, length, Some, slice_get}
use Rattle.std.specs.List.{filter}
use Rattle.std.specs.Int.{div_ceil}
use Rattle.cal_load.specs.Built.{AreBuilt}
use Rattle.cal_load.specs.Made.{AreCountedBy, IsCountOf}
use Rattle.cal_load.specs.Services.{IsWork}
use Rattle.cal_load.specs.declared.log.LogRow.{LogRow}
use Rattle.cal_load.specs.declared.log.length.LogScale.{LogScale}
use Rattle.cal_load.specs.declared.made.Count.{Count}
use Rattle.cal_load.specs.declared.made.Gathered.{Gathered}
use Rattle.cal_load.specs.declared.made.Made.{Made}
use Rattle.cal_load.specs.declared.made.TheConstants.{MOST_REQUESTS}
use Rattle.cal_machine.specs.Table.{Table}
use Rattle.cal_machine.specs.Tasks.{first_thread, threads_in}
use Rattle.cal_trace.specs.History.Ranges.{Each}
use Rattle.cal_trace.specs.declared.arrivals.Arrival.{Arrival}

-- a turn has a length
abbrev pub IsScale : LogScale → Type 0
IsScale scale = 0 < scale.turn

-- how many turns of a length a time takes: rounded up, and at least one
abbrev pub turns_over : ℕ → ℕ → ℕ
turns_over length time = max (div_ceil time length) 1

-- a request of a log is of one of so many tasks, and takes turns as a request may
pub record IsLogRow (tasks : ℕ) (row : LogRow) : Type 0 where
  pub task : row.task < tasks
  pub work : IsWork row.work

-- the requests of a log: not too many
pub record AreLogged (tasks : ℕ) (rows : List LogRow) : Type 0 where
  pub each : Each (IsLogRow tasks) rows
  pub few : length rows ≤ MOST_REQUESTS

-- there is one request more
pub record HasOneMore (tasks : ℕ) (old new : List LogRow) : Type 0 where
  pub row : LogRow
  pub is : IsLogRow tasks row
  pub more : new ≡ old ++ row ∷ []

-- those of a task, in their order
abbrev pub rows_for : ℕ → List LogRow → List LogRow
rows_for task rows = filter (λ row. row.task == task) rows

-- what came to a task by a log: as many requests as the log has for it, without misses
pub record IsLogCount (table : Table) (rows : List LogRow) (count : Count)
    (requests : List Arrival) : Type 0 where
  pub came : count.came ≡ length (rows_for count.task rows)
  pub of : IsCountOf table 0 count requests

-- one count for each task below n, by their numbers
pub record AreOfTasks (n : ℕ) (counts : List Count) : Type 0 where
  pub many : length counts ≡ n
  pub each : (k : ℕ) (count : Count) → slice_get counts k ≡ Some count → count.task ≡ k

-- what came by a log to the tasks below n of a table, in so many turns
pub record AreGiven (table : Table) (rows : List LogRow) (turns n : ℕ) (gathered : Gathered)
    : Type 0 where
  pub built : AreBuilt (threads_in table.tasks) turns (first_thread table.tasks n)
      gathered.requests.items
  pub tasks : AreOfTasks n gathered.counts.items
  pub counted : AreCountedBy (IsLogCount table rows) gathered.counts.items
      gathered.requests.items

-- each task of a table has one count of its requests of a log, and requests are those of the counts
pub record AreOfLog (table : Table) (rows : List LogRow) (made : Made) : Type 0 where
  pub tasks : AreOfTasks (length table.tasks) made.counts.items
  pub counted : AreCountedBy (IsLogCount table rows) made.counts.items made.arrivals.requests
