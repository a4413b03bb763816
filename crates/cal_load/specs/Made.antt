-- Arrivals that are made.
use Rattle.std.specs.Prelude.{◌≡◌, ◌<◌, ◌≤◌, ◌+◌, ℕ, List, [], ◌∷◌, ◌++◌, All, length, Some, slice_get}
use Rattle.cal_came.specs.Came.{AreCameOf}
use Rattle.cal_load.specs.Built.{AreBuilt, HasMoreFor}
use Rattle.cal_load.specs.Clocks.{ArePassesOf, AreTurnsOf}
use Rattle.cal_load.specs.Comings.{IsQueue, slots_in}
use Rattle.cal_load.specs.Counts.{came_in, count_of}
use Rattle.cal_load.specs.declared.clocks.Timing.{Timing}
use Rattle.cal_load.specs.declared.made.Count.{Count}
use Rattle.cal_load.specs.declared.made.Gathered.{Gathered}
use Rattle.cal_load.specs.declared.made.Made.{Made}
use Rattle.cal_load.specs.declared.made.TheConstants.{MOST_REQUESTS}
use Rattle.cal_load.specs.declared.making.Coming.{Coming}
use Rattle.cal_load.specs.declared.making.TaskLoad.{TaskLoad}
use Rattle.cal_machine.specs.Table.{Table}
use Rattle.cal_machine.specs.Tasks.{first_thread, task_of, threads_in}
use Rattle.cal_trace.specs.Arrivals.FitsTable.{EachLater, FitsTable}
use Rattle.cal_trace.specs.Arrivals.Text.{AreSpelled}
use Rattle.cal_trace.specs.History.Ranges.{Each}
use Rattle.cal_trace.specs.declared.arrivals.Arrival.{Arrival}
use Rattle.cal_trace.specs.declared.arrivals.Arrivals.{Arrivals}

-- arrivals for a table: a file can hold them, they fit the table, and each came at some clock, none
-- after that of its turn
pub record AreArrivals (table : Table) (made : Made) : Type 0 where
  pub fits : FitsTable table made.arrivals
  pub spelled : AreSpelled made.arrivals
  pub came : AreCameOf made.arrivals made.came.items

-- what came to a task: these requests, all for its threads and with so many misses, and as many as
-- came but for those that are left out
pub record IsCountOf (table : Table) (misses : ℕ) (count : Count) (requests : List Arrival)
    : Type 0 where
  pub counted : length requests + count.left_out ≡ count.came
  pub own : Each (λ arrival. task_of table.tasks arrival.thread ≡ count.task) requests
  pub missed : Each (λ arrival. arrival.request.misses ≡ misses) requests

-- requests are those of each count in turn, which are so
abbrev pub AreCountedBy : (Count → List Arrival → Type 0) → List Count → List Arrival → Type 0
AreCountedBy P [] requests = requests ≡ []
AreCountedBy P (count ∷ counts) requests = (own : List Arrival) × (others : List Arrival)
    × (requests ≡ own ++ others) × P count own × AreCountedBy P counts others

-- the load of this task among these
pub record IsLoadOf (loads : List TaskLoad) (task : ℕ) (load : TaskLoad) : Type 0 where
  pub place : ℕ
  pub at : slice_get loads place ≡ Some load
  pub is_for : load.task ≡ task

-- what came to a task by its load, with the load's misses
pub record IsLoadCount (table : Table) (loads : List TaskLoad) (count : Count)
    (requests : List Arrival) : Type 0 where
  pub load : TaskLoad
  pub asked : IsLoadOf loads count.task load
  pub of : IsCountOf table load.misses count requests

-- one of these counts is of this task
pub record HasCount (counts : List Count) (task : ℕ) : Type 0 where
  pub place : ℕ
  pub count : Count
  pub at : slice_get counts place ≡ Some count
  pub is_of : count.task ≡ task

-- the counts of these loads for the tasks below n, by rising tasks: one for each
pub record AreCountsOf (loads : List TaskLoad) (n : ℕ) (counts : List Count) : Type 0 where
  pub below : Each (λ count. count.task < n) counts
  pub rising : EachLater (λ count later. count.task < later.task) counts
  pub all : Each (λ load. load.task < n → HasCount counts load.task) loads

-- what came by these loads to the tasks below n of a table, in so many turns
pub record AreGathered (table : Table) (loads : List TaskLoad) (turns n : ℕ)
    (gathered : Gathered) : Type 0 where
  pub built : AreBuilt (threads_in table.tasks) turns (first_thread table.tasks n)
      gathered.requests.items
  pub counts : AreCountsOf loads n gathered.counts.items
  pub counted : AreCountedBy (IsLoadCount table loads) gathered.counts.items
      gathered.requests.items
  pub few : came_in gathered.counts.items ≤ MOST_REQUESTS

-- what comes to a task is put after what came to others, for threads from a first one on, with so
-- many misses
pub record IsPut (task misses first : ℕ) (coming : Coming) (old new : Gathered) : Type 0 where
  pub built : (threads turns : ℕ) → AreBuilt threads turns first old.requests.items →
      first + length coming.queues.items ≤ threads → All (IsQueue turns) coming.queues.items →
      AreBuilt threads turns (first + length coming.queues.items) new.requests.items
  pub own : HasMoreFor first (first + length coming.queues.items) misses old.requests.items
      new.requests.items
  pub many : length new.requests.items ≡
      length old.requests.items + slots_in coming.queues.items
  pub counts : new.counts.items ≡ old.counts.items ++ count_of task coming ∷ []

-- arrivals by these loads for a table: each load of a task that the table has is counted, and
-- requests are those of the counts
pub record IsMadeOf (table : Table) (loads : List TaskLoad) (made : Made) : Type 0 where
  pub are : AreArrivals table made
  pub counts : AreCountsOf loads (length table.tasks) made.counts.items
  pub counted : AreCountedBy (IsLoadCount table loads) made.counts.items made.arrivals.requests

-- their passes and turns are those of this timing
pub record IsTimedBy (timing : Timing) (arrivals : Arrivals) : Type 0 where
  pub passes : ArePassesOf timing arrivals.passes
  pub turns : AreTurnsOf timing arrivals.turns
