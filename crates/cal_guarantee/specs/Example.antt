-- Small runs, one for each number of passes that threads take to leave. In each of them a task waits as
-- the guarantee asks, and is granted its cores no earlier than the guarantee says.
use Rattle.std.specs.Prelude.{◌≡◌, ◌≢◌, ℕ, ◌+◌, ◌-◌, ◌<◌, ◌≤◌, true, List, [], ◌∷◌, ◌++◌, Some, slice_get}
use Rattle.std.specs.Prelude.{replicate}
use Rattle.cal_signal.specs.declared.record.Record.{Record}
use Rattle.cal_machine.specs.declared.task.Task.{Task}
use Rattle.cal_machine.specs.declared.task.Kind.TheVariants as kinds
use Rattle.cal_machine.specs.Table.{Table}
use Rattle.cal_machine.specs.TableTasks.{owner_of}
use Rattle.cal_policy.specs.declared.history.action.Action.{Action}
use Rattle.cal_policy.specs.declared.history.action.Action.TheVariants.{Free, Revoke, Grant}
use Rattle.cal_policy.specs.declared.history.action.Cause.TheVariants as causes
use Rattle.cal_policy.specs.declared.history.entry.PassEntry.{PassEntry}
use Rattle.cal_policy.specs.declared.history.look.Seen.{Seen}
use Rattle.cal_policy.specs.declared.history.look.Seen.TheVariants.{Whole}
use Rattle.cal_assured.specs.Guarantee.{WaitsThrough}
use Rattle.cal_guarantee.specs.WholeGuarantee.{NeedsFromTo, granted_before}

-- a task that may have two cores, of which none is guaranteed to it, and one that is guaranteed two
abbrev pub first_task : Task
first_task =
    record { kind = kinds.LatencyCritical; guaranteed = 0; limit = 2; delay = 0; request = 0 }

abbrev pub second_task : Task
second_task =
    record { kind = kinds.LatencyCritical; guaranteed = 2; limit = 2; delay = 0; request = 0 }

-- both on two cores
abbrev pub two_tasks : Table
two_tasks =
    record { cores = 2; bandwidth_limit = 0; tasks = first_task ∷ second_task ∷ [] }

-- what a thread shows that has taken so many commands, runs on no core, and has so many requests that
-- came at tick 1
abbrev pub shown : ℕ → ℕ → Record
shown taken queued = record {
  taken = taken;
  running = 0;
  queued = queued;
  oldest = 1;
  started = 0;
  misses = 0;
  stamp = 0;
  paused = 0;
  since = 0;
}

-- a pass at tick 2 whose looks found this of the four threads, with room in each ring
abbrev pub entry_of : Seen → Seen → Seen → Seen → List Action → PassEntry
entry_of first second third fourth actions = record {
  input = record {
    now = 2;
    bandwidth = 0;
    seen = first ∷ second ∷ third ∷ fourth ∷ [];
    rooms = true ∷ true ∷ true ∷ true ∷ [];
  };
  actions = actions;
}

-- the first task gets a core, and then the other
abbrev pub first_pass : PassEntry
first_pass =
    entry_of (Whole 1 (shown 0 1)) (Whole 1 (shown 0 1)) (Whole 1 (shown 0 0)) (Whole 1 (shown 0 0))
    (Grant 0 0 3 ∷ [])

abbrev pub second_pass : PassEntry
second_pass =
    entry_of (Whole 1 (shown 0 1)) (Whole 1 (shown 0 1)) (Whole 1 (shown 0 0)) (Whole 1 (shown 0 0))
    (Grant 1 1 1 ∷ [])

-- each thread of the other task has a request: both cores are revoked for it
abbrev pub third_pass : PassEntry
third_pass =
    entry_of (Whole 1 (shown 0 1)) (Whole 1 (shown 0 1)) (Whole 2 (shown 0 1)) (Whole 2 (shown 0 1))
    (Revoke 0 (causes.Preempt 1) ∷ Revoke 1 (causes.Preempt 1) ∷ [])

-- the threads have not left them yet: nothing is done
abbrev pub waiting_pass : PassEntry
waiting_pass =
    entry_of (Whole 1 (shown 0 1)) (Whole 1 (shown 0 1)) (Whole 2 (shown 0 1)) (Whole 2 (shown 0 1))
    []

-- the threads have left them, and the task is granted both
abbrev pub last_pass : PassEntry
last_pass =
    entry_of (Whole 2 (shown 2 0)) (Whole 2 (shown 2 0)) (Whole 2 (shown 0 1)) (Whole 2 (shown 0 1))
    (Free 0 ∷ Free 1 ∷ Grant 0 2 3 ∷ Grant 1 3 1 ∷ [])

-- the run whose threads leave their cores d passes after these were revoked, d at least 1
abbrev pub run_of : ℕ → List PassEntry
run_of d =
    first_pass ∷ second_pass ∷ third_pass ∷ replicate (d - 1) waiting_pass ++ last_pass ∷ []

-- task t waits through the passes p to p + d, and none before the last grants it a core
pub record WaitsToTheLast (table : Table) (history : List PassEntry) (t d p : ℕ) : Type 0 where
  pub waits : WaitsThrough table history t d p
  pub late : (q : ℕ) (entry : PassEntry) → p ≤ q → q < p + d → slice_get history q ≡ Some entry →
      (place core thread class : ℕ) → slice_get entry.actions place ≡ Some (Grant core thread class) →
      owner_of table thread ≢ t

-- so the guarantee's premises can be met for each d, and its bound is reached: the second task waits from
-- the revocations on, and the pass d passes later is the first that grants it a core
abbrev pub TheBoundIsReached : Type 0
TheBoundIsReached = (d : ℕ) → 1 ≤ d → WaitsToTheLast two_tasks (run_of d) 1 d 2

-- the task needs n cores through the passes p to p + d, and is granted none of them before the last
pub record NeedsToTheLast (table : Table) (history : List PassEntry) (t d n p : ℕ) : Type 0 where
  pub needs : NeedsFromTo table history t d n p
  pub late : granted_before table history t (p + d) ≡ granted_before table history t p

-- and so for two cores: the task needs both through these passes, and is granted both by the last
abbrev pub TheWholeBoundIsReached : Type 0
TheWholeBoundIsReached = (d : ℕ) → 1 ≤ d → NeedsToTheLast two_tasks (run_of d) 1 d 2 2

-- a task that needs n cores through the passes p to p + d is granted n in the passes p to p + e
abbrev pub AreGivenWithin : ℕ → ℕ → ℕ → Type 0
AreGivenWithin d n e = (table : Table) (history : List PassEntry) (t p : ℕ) →
    NeedsFromTo table history t d n p →
    granted_before table history t p + n ≤ granted_before table history t (p + e + 1)

-- so the bound is exact for each d: with e of d it is so, which is the guarantee, but with no smaller e,
-- be it one core or two
abbrev pub TheBoundIsExact : Type 0
TheBoundIsExact = (d n e : ℕ) → 1 ≤ d → 1 ≤ n → n ≤ 2 → e < d → ¬ AreGivenWithin d n e
