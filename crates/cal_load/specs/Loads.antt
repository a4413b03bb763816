-- What a load is of.
use Rattle.std.specs.Prelude.{◌≤◌, ◌*◌, ℕ, List, [], ◌∷◌, All, codes, ⊤}
use Rattle.cal_load.specs.declared.loads.Measure.{Measure}
use Rattle.cal_load.specs.declared.loads.Measure.TheVariants.{Cores, Limit}
use Rattle.cal_load.specs.declared.loads.TheConstants.{MOST_LOAD, MOST_OFFERED}
use Rattle.cal_load.specs.declared.making.TaskLoad.{TaskLoad}
use Rattle.cal_machine.specs.Table.{Table}
use Rattle.cal_machine.specs.Tasks.{task_at}

-- the flag before a load in this measure
abbrev pub flag_of : Measure → List ℕ
flag_of Limit = codes "--load"
flag_of Cores = codes "--offered"

-- what some loads are measured in: the first of them
abbrev pub measure_in : List TaskLoad → Measure
measure_in [] = Limit
measure_in (load ∷ loads) = load.measure

-- the greatest load in this measure
abbrev pub most_of : Measure → ℕ
most_of Limit = MOST_LOAD
most_of Cores = MOST_OFFERED

-- how many threads a task of a table has
abbrev pub limit_of : ℕ → Table → ℕ
limit_of task table = (task_at table.tasks task).limit

-- the turns of so many threads can hold this load, where it is in cores
abbrev pub IsHeld : Measure → ℕ → ℕ → Type 0
IsHeld Limit load threads = ⊤
IsHeld Cores load threads = load ≤ 1000 * threads

-- those of each task's threads can hold its load
abbrev pub AreHeld : Table → List TaskLoad → Type 0
AreHeld table loads =
    All (λ load. IsHeld load.measure load.load (limit_of load.task table)) loads
