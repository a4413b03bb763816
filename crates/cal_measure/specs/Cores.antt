-- What came of the cores of a task, and of the machine's, over a whole history.
use Rattle.std.specs.Prelude.{◌≡◌, ℕ, ◌+◌, ◌-◌, ◌*◌, ◌^◌, ◌≤◌, Bool, nat_lt, List, length}
use Rattle.std.specs.Prelude.{slice_get, take, Option, Some, None, if◌then◌else◌}
use Rattle.cal_machine.specs.Table.{Table}
use Rattle.cal_policy.specs.Board.Counts.{booked_by, held_by}
use Rattle.cal_policy.specs.History.{actions_of}
use Rattle.cal_policy.specs.Pass.Choice.{greatest_below, sum_below}
use Rattle.cal_policy.specs.declared.history.entry.PassEntry.{PassEntry}
use Rattle.cal_measure.specs.Actions.{AreActionsOf}
use Rattle.cal_measure.specs.States.{count_in_state, is_congested_at, lasts_at}
use Rattle.cal_measure.specs.declared.cores.MachineCores.{MachineCores}
use Rattle.cal_measure.specs.declared.cores.TaskCores.{TaskCores}
use Rattle.cal_measure.specs.declared.states.CoreState.{CoreState}
use Rattle.cal_measure.specs.declared.states.CoreState.TheVariants as states

-- how many cores the threads of task t hold after pass p
abbrev pub held_after : Table → List PassEntry → ℕ → ℕ → ℕ
held_after table history t p = held_by table (actions_of (take (p + 1) history)) t

-- how many cores are in this state after pass p
abbrev pub in_state_after : Table → List PassEntry → CoreState → ℕ → ℕ
in_state_after table history state p =
    count_in_state table (actions_of (take (p + 1) history)) state

-- over the passes of a history, so many cores after each times how long that lasts
abbrev pub core_time : List PassEntry → (ℕ → ℕ) → ℕ
core_time history cores = sum_below (λ p. cores p * lasts_at history p) (length history)

-- how many cores the threads of task t leave after pass p: those that they hold or leave, but for
-- those that they hold
abbrev pub left_after : Table → List PassEntry → ℕ → ℕ → ℕ
left_after table history t p =
    booked_by table (actions_of (take (p + 1) history)) t - held_after table history t p

-- the bandwidth figure of a pass, 0 where there is none
abbrev pub bandwidth_in : Option PassEntry → ℕ
bandwidth_in None = 0
bandwidth_in (Some entry) = entry.input.bandwidth

-- pass p found the bandwidth figure above the limit
abbrev pub is_over_limit : Table → List PassEntry → ℕ → Bool
is_over_limit table history p =
    nat_lt table.bandwidth_limit (bandwidth_in (slice_get history p))

-- for how long the bandwidth figure was above the limit: over the passes that found it so, how long
-- what was so after each of them lasted
abbrev pub over_limit_for : Table → List PassEntry → ℕ
over_limit_for table history = sum_below
    (λ p. if is_over_limit table history p then lasts_at history p else 0) (length history)

-- for how long task t was congested: over the passes that found it so, how long what was so after
-- each of them lasted
abbrev pub congested_for : Table → List PassEntry → ℕ → ℕ
congested_for table history t = sum_below
    (λ p. if is_congested_at table history t p then lasts_at history p else 0) (length history)

-- how long a history lasts
abbrev pub lasted : List PassEntry → ℕ
lasted history = sum_below (λ p. lasts_at history p) (length history)

-- no history has more core time: it has at most 2 ^ 20 passes, from each to the next there are
-- fewer than 2 ^ 64 ticks, and a machine has fewer than 2 ^ 8 cores
abbrev pub most_core_time : ℕ
most_core_time = 2 ^ 92

-- the numbers of task t's cores in this history
pub record AreCoresOf (table : Table) (history : List PassEntry) (t : ℕ)
    (numbers : TaskCores) : Type 0 where
  pub actions : AreActionsOf table t (actions_of history) numbers.actions
  pub most : numbers.most ≡ greatest_below (held_after table history t) (length history)
  pub held : numbers.held ≡ core_time history (held_after table history t)
  pub leaving : numbers.leaving ≡ core_time history (left_after table history t)
  pub congested : numbers.congested ≡ congested_for table history t
  pub few_held : numbers.held ≤ most_core_time
  pub few_leaving : numbers.leaving ≤ most_core_time

-- for each task, in task order, the numbers of its cores in this history
pub record AreCoresOfTasks (table : Table) (history : List PassEntry)
    (numbers : List TaskCores) : Type 0 where
  pub many : length numbers ≡ length table.tasks
  pub each : (t : ℕ) (of_task : TaskCores) → slice_get numbers t ≡ Some of_task →
      AreCoresOf table history t of_task

-- the numbers of the machine's cores in this history
pub record AreMachineCores (table : Table) (history : List PassEntry)
    (numbers : MachineCores) : Type 0 where
  pub lasted : numbers.lasted ≡ lasted history
  pub held : numbers.held ≡ core_time history (in_state_after table history states.Held)
  pub leaving : numbers.leaving ≡ core_time history (in_state_after table history states.Leaving)
  pub banned : numbers.banned ≡ core_time history (in_state_after table history states.Banned)
  pub free : numbers.free ≡ core_time history (in_state_after table history states.Free)
  pub over_limit : numbers.over_limit ≡ over_limit_for table history
  pub few : numbers.lasted ≤ most_core_time

-- the parts of the machine's core time make the whole
abbrev pub MakeTheWhole : Table → MachineCores → Type 0
MakeTheWhole table numbers =
    numbers.held + numbers.leaving + numbers.banned + numbers.free ≡ numbers.lasted * table.cores
