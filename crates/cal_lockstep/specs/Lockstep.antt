-- What holds of lockstep runs without a word about threads.
use Rattle.std.specs.Prelude.{◌≡◌, ℕ, ◌+◌, ◌<◌, ◌≤◌, true, length, take, Some, slice_get}
use Rattle.cal_machine.specs.Table.{Table, IsTable}
use Rattle.cal_machine.specs.TableTasks.{threads_of_table}
use Rattle.cal_policy.specs.declared.history.entry.PassEntry.{PassEntry}
use Rattle.cal_policy.specs.declared.policy.Policy.{Policy}
use Rattle.cal_policy.specs.declared.policy.Policy.TheVariants.{Assured}
use Rattle.cal_policy.specs.History.{actions_of, holder_of}
use Rattle.cal_policy.specs.Setting.{setting_of, has_room}
use Rattle.cal_assured.specs.Guarantee.{IsFreedIn, is_leaving}
use Rattle.cal_guarantee.specs.Enough.{IsShortOfCores}
use Rattle.cal_guarantee.specs.WholeGuarantee.{granted_before, needs_at}
use Rattle.cal_trace.specs.Arrivals.FitsTable.{FitsTable}
use Rattle.cal_trace.specs.declared.arrivals.Arrivals.{Arrivals}
use Rattle.cal_run.specs.Outcome.{IsRunBy}
use Rattle.cal_run.specs.declared.outcome.Outcome.{Outcome}
use Rattle.cal_lockstep.specs.InStep.{IsInStep}

-- a run of the policy on these arrivals, round by round
pub record IsLockstepBy (policy : Policy) (table : Table) (arrivals : Arrivals)
    (outcome : Outcome) : Type 0 where
  pub accepted : IsTable table
  pub fits : FitsTable table arrivals
  pub run : IsRunBy policy table arrivals outcome
  pub in_step : IsInStep table (length arrivals.turns) outcome.history outcome.journals

-- this is pass p of such a run, and a turn follows each pass before it
pub record IsLockstepPass (policy : Policy) (table : Table) (arrivals : Arrivals) (outcome : Outcome)
    (p : ℕ) (entry : PassEntry) : Type 0 where
  pub lockstep : IsLockstepBy policy table arrivals outcome
  pub is_pass : slice_get outcome.history p ≡ Some entry
  pub turned : p ≤ length arrivals.turns

-- then each ring has room in it
abbrev pub RingsHaveRoomInLockstep : Type 0
RingsHaveRoomInLockstep = (policy : Policy) (table : Table) (arrivals : Arrivals) (outcome : Outcome)
    (p : ℕ) (entry : PassEntry) → IsLockstepPass policy table arrivals outcome p entry →
    (k : ℕ) → k < threads_of_table table →
    has_room (setting_of table (take p outcome.history) entry) k ≡ true

-- and it frees each core that is being left where it begins
abbrev pub LeftCoresAreFreedInLockstep : Type 0
LeftCoresAreFreedInLockstep = (policy : Policy) (table : Table) (arrivals : Arrivals)
    (outcome : Outcome) (p : ℕ) (entry : PassEntry) →
    IsLockstepPass policy table arrivals outcome p entry →
    (c : ℕ) → c < table.cores →
    is_leaving (holder_of (actions_of (take p outcome.history)) c) ≡ true → IsFreedIn entry c

-- In passes p and p + 1 of a lockstep run by the second policy task t is short and waits where grants
-- begin, and needs n cores: what it needs there and what it was granted since pass p began come to n
-- at least. A turn follows pass p and each pass before it.
pub record NeedsInLockstep (table : Table) (arrivals : Arrivals) (outcome : Outcome)
    (t n p : ℕ) : Type 0 where
  pub lockstep : IsLockstepBy Assured table arrivals outcome
  pub own : t < length table.tasks
  pub passes : p + 1 < length outcome.history
  pub turned : p < length arrivals.turns
  pub waiting : (q : ℕ) (entry : PassEntry) → p ≤ q → q ≤ p + 1 →
      slice_get outcome.history q ≡ Some entry →
      IsShortOfCores (setting_of table (take q outcome.history) entry) t
  pub needs : (q : ℕ) (entry : PassEntry) → p ≤ q → q ≤ p + 1 →
      slice_get outcome.history q ≡ Some entry →
      granted_before table outcome.history t p + n
      ≤ granted_before table outcome.history t q
      + needs_at (setting_of table (take q outcome.history) entry) t

-- then these two passes grant it n cores
abbrev pub GuaranteesAreGivenInLockstep : Type 0
GuaranteesAreGivenInLockstep = (table : Table) (arrivals : Arrivals) (outcome : Outcome) (t n p : ℕ) →
    NeedsInLockstep table arrivals outcome t n p →
    granted_before table outcome.history t p + n ≤ granted_before table outcome.history t (p + 2)
