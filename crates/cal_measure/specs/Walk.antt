-- What a walk over the passes of a history holds after those so far.
use Rattle.std.specs.Prelude.{◌≡◌, ℕ, ◌+◌, ◌-◌, ◌*◌, ◌^◌, ◌≤◌, List, [], ◌∷◌, ◌++◌, length}
use Rattle.std.specs.Prelude.{Option, Some, None, slice_get}
use Rattle.cal_machine.specs.Table.{Table}
use Rattle.cal_policy.specs.History.{actions_of}
use Rattle.cal_policy.specs.Pass.Choice.{greatest_below}
use Rattle.cal_policy.specs.State.{Agrees, IsReady}
use Rattle.cal_policy.specs.declared.history.action.Action.{Action}
use Rattle.cal_policy.specs.declared.history.action_list.TheConstants.{MOST_ACTIONS}
use Rattle.cal_policy.specs.declared.history.entry.PassEntry.{PassEntry}
use Rattle.cal_policy.specs.declared.history.entry.TheConstants.{MOST_PASSES}
use Rattle.cal_measure.specs.Actions.{AreActionsOf}
use Rattle.cal_measure.specs.Cores.{AreMachineCores, congested_for, core_time}
use Rattle.cal_measure.specs.Cores.{held_after, in_state_after, is_over_limit, left_after}
use Rattle.cal_measure.specs.States.{is_congested_at, lasts_at}
use Rattle.cal_measure.specs.declared.cores.MachineCores.{MachineCores}
use Rattle.cal_measure.specs.declared.cores.TaskActions.{TaskActions}
use Rattle.cal_measure.specs.declared.states.CoreState.TheVariants as states
use Rattle.cal_measure.specs.declared.walk.machine_time.MachineTime.{MachineTime}
use Rattle.cal_measure.specs.declared.walk.Walk.{Walk}
use Rattle.cal_measure.specs.declared.walk.task_time.TaskTime.{TaskTime}

-- each pass of a history has at most MOST_ACTIONS actions
abbrev pub AreShort : List PassEntry → Type 0
AreShort history = (p : ℕ) (entry : PassEntry) → slice_get history p ≡ Some entry →
    length entry.actions ≤ MOST_ACTIONS

-- how long what is so after the last pass of a history lasts once this pass follows; 0 where there
-- is none before it
abbrev pub until_next : List PassEntry → PassEntry → ℕ
until_next history next = lasts_at (history ++ next ∷ []) (length history - 1)

-- the clock of a pass, where there is one
abbrev pub clock_of : Option PassEntry → Option ℕ
clock_of None = None
clock_of (Some entry) = Some entry.input.now

-- the clock of the last pass of a history
abbrev pub last_clock : List PassEntry → Option ℕ
last_clock history = clock_of (slice_get history (length history - 1))

-- what was so since this clock, where there is one, has lasted so long by now
abbrev pub since : Option ℕ → ℕ → ℕ
since None now = 0
since (Some clock) now = now - clock

-- something holds of what stands at each task's place
abbrev pub EachTask : {X : Type 0} → (ℕ → X → Type 0) → List X → Type 0
EachTask {X} P rows = (t : ℕ) (row : X) → slice_get rows t ≡ Some row → P t row

-- at each task's place, the numbers of what these actions did to its cores
abbrev pub AreActionsOfEach : Table → List Action → List TaskActions → Type 0
AreActionsOfEach table x = EachTask (λ t of_task. AreActionsOf table t x of_task)

-- the core time of task t over the passes of a history, and how the last of them left it
pub record IsTimeOf (table : Table) (history : List PassEntry) (t : ℕ)
    (time : TaskTime) : Type 0 where
  pub most : time.most ≡ greatest_below (held_after table history t) (length history)
  pub held : time.held ≡ core_time history (held_after table history t)
  pub leaving : time.leaving ≡ core_time history (left_after table history t)
  pub congested : time.congested ≡ congested_for table history t
  pub holds : (p : ℕ) → length history ≡ p + 1 → time.holds ≡ held_after table history t p
  pub leaves : (p : ℕ) → length history ≡ p + 1 → time.leaves ≡ left_after table history t p
  pub found : (p : ℕ) → length history ≡ p + 1 →
      time.found ≡ is_congested_at table history t p
  pub few_held : time.held ≤ length history * 2 ^ 72
  pub few_leaving : time.leaving ≤ length history * 2 ^ 72
  pub few_congested : time.congested ≤ length history * 2 ^ 72

-- the machine's numbers over the passes of a history, low enough for one pass more
pub record AreMachineCoresSoFar (table : Table) (history : List PassEntry)
    (numbers : MachineCores) : Type 0 where
  pub are : AreMachineCores table history numbers
  pub few_lasted : numbers.lasted ≤ length history * 2 ^ 72
  pub few_held : numbers.held ≤ length history * 2 ^ 72
  pub few_leaving : numbers.leaving ≤ length history * 2 ^ 72
  pub few_banned : numbers.banned ≤ length history * 2 ^ 72
  pub few_free : numbers.free ≤ length history * 2 ^ 72
  pub few_over : numbers.over_limit ≤ length history * 2 ^ 72

-- the core time of the machine over the passes of a history, and how the last of them left it
pub record IsMachineTimeOf (table : Table) (history : List PassEntry)
    (time : MachineTime) : Type 0 where
  pub numbers : AreMachineCoresSoFar table history time.numbers
  pub held : (p : ℕ) → length history ≡ p + 1 →
      time.held ≡ in_state_after table history states.Held p
  pub leaving : (p : ℕ) → length history ≡ p + 1 →
      time.leaving ≡ in_state_after table history states.Leaving p
  pub banned : (p : ℕ) → length history ≡ p + 1 →
      time.banned ≡ in_state_after table history states.Banned p
  pub free : (p : ℕ) → length history ≡ p + 1 →
      time.free ≡ in_state_after table history states.Free p
  pub is_over : (p : ℕ) → length history ≡ p + 1 →
      time.is_over ≡ is_over_limit table history p

-- a walk can take passes on this table: its board is ready for them, and each task has its rows
pub record IsOpenFor (table : Table) (walk : Walk) : Type 0 where
  pub ready : IsReady table walk.board
  pub actions : length walk.actions.items ≡ length table.tasks
  pub times : length walk.times.items ≡ length table.tasks

-- what a walk holds after these passes: cores, bans and caps as their actions leave them, the clock
-- of the last one, and the numbers of each task and of the machine
pub record IsWalkOf (table : Table) (history : List PassEntry) (walk : Walk) : Type 0 where
  pub state : Agrees walk.board (actions_of history)
  pub clock : walk.clock ≡ last_clock history
  pub actions : AreActionsOfEach table (actions_of history) walk.actions.items
  pub times : EachTask (IsTimeOf table history) walk.times.items
  pub machine : IsMachineTimeOf table history walk.machine
  pub few_actions : length (actions_of history) ≤ length history * MOST_ACTIONS
  pub few : length history ≤ MOST_PASSES
