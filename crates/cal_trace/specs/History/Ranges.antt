-- Histories that a file can hold, for a table: each number is in its range.
use Rattle.std.specs.Prelude.{◌≡◌, ◌<◌, ◌≤◌, ◌^◌, ⊤, ℕ, List, length, Some, slice_get}
use Rattle.cal_machine.specs.declared.task_table.TheConstants.{MOST_LIMIT}
use Rattle.cal_signal.specs.declared.record.Record.{Record}
use Rattle.cal_policy.specs.declared.history.look.Seen.{Seen}
use Rattle.cal_policy.specs.declared.history.look.Seen.TheVariants as seen
use Rattle.cal_policy.specs.declared.history.action.Action.{Action}
use Rattle.cal_policy.specs.declared.history.action.Action.TheVariants.{Free, Unban, Ban, Revoke}
use Rattle.cal_policy.specs.declared.history.action.Action.TheVariants.{Cap, Grant}
use Rattle.cal_policy.specs.declared.history.action.Cause.{Cause}
use Rattle.cal_policy.specs.declared.history.action.Cause.TheVariants as causes
use Rattle.cal_policy.specs.declared.history.entry.PassEntry.{PassEntry}
use Rattle.cal_policy.specs.declared.history.action_list.TheConstants.{MOST_ACTIONS}
use Rattle.cal_policy.specs.declared.history.entry.TheConstants.{MOST_PASSES}
use Rattle.cal_signal.specs.Looks.{IsBusyPair}
use Rattle.cal_signal.specs.Records.{IsShaped, words_of}
use Rattle.cal_trace.specs.declared.history.action_rows.Extent.{Extent}

-- each member of a list is so
pub record Each {X : Type 0} (P : X → Type 0) (xs : List X) : Type 0 where
  pub at : (k : ℕ) (x : X) → slice_get xs k ≡ Some x → P x

-- a number that a field can spell
abbrev pub IsWord : ℕ → Type 0
IsWord n = n < 2 ^ 64

-- a field can spell each word of a record
abbrev pub AreWords : Record → Type 0
AreWords rec = Each IsWord (words_of rec)

-- fields can spell the numbers of a look
abbrev pub HasLookWords : Seen → Type 0
HasLookWords (seen.Whole number rec) = IsWord number × AreWords rec
HasLookWords (seen.Ahead number rec) = IsWord number × AreWords rec
HasLookWords (seen.Foreign number rec) = IsWord number × AreWords rec
HasLookWords (seen.Busy first second) = IsWord first × IsWord second

-- a field can spell the start of a ban's request
abbrev pub HasActionWord : Action → Type 0
HasActionWord (Free core) = ⊤
HasActionWord (Unban core) = ⊤
HasActionWord (Ban core thread started) = IsWord started
HasActionWord (Revoke core cause) = ⊤
HasActionWord (Cap task cap) = ⊤
HasActionWord (Grant core thread class) = ⊤

-- a pass whose numbers fields can spell
pub record HasWords (entry : PassEntry) : Type 0 where
  pub now : IsWord entry.input.now
  pub bandwidth : IsWord entry.input.bandwidth
  pub looks : Each HasLookWords entry.input.seen
  pub starts : Each HasActionWord entry.actions

-- a record has the right shape, a busy look a busy pair
abbrev pub IsLookInRange : Seen → Type 0
IsLookInRange (seen.Whole number rec) = IsShaped rec
IsLookInRange (seen.Ahead number rec) = IsShaped rec
IsLookInRange (seen.Foreign number rec) = IsShaped rec
IsLookInRange (seen.Busy first second) = IsBusyPair first second

-- a cause names a core or a task of the table
abbrev pub IsCauseInRange : Extent → Cause → Type 0
IsCauseInRange extent (causes.Ban by) = by < extent.cores
IsCauseInRange extent causes.Bandwidth = ⊤
IsCauseInRange extent (causes.Preempt task) = task < extent.tasks

-- an action names cores, threads and tasks of the table, a cap of at most MOST_LIMIT, a class from
-- 1 to 5
abbrev pub IsActionInRange : Extent → Action → Type 0
IsActionInRange extent (Free core) = core < extent.cores
IsActionInRange extent (Unban core) = core < extent.cores
IsActionInRange extent (Ban core thread started) = (core < extent.cores) × (thread < extent.threads)
IsActionInRange extent (Revoke core cause) = (core < extent.cores) × IsCauseInRange extent cause
IsActionInRange extent (Cap task cap) = (task < extent.tasks) × (cap ≤ MOST_LIMIT)
IsActionInRange extent (Grant core thread class) =
    (core < extent.cores) × (thread < extent.threads) × (1 ≤ class) × (class ≤ 5)

-- a pass: one look and one answer on room for each thread, no more actions than a pass can have,
-- and all in range
pub record IsEntryInRange (extent : Extent) (entry : PassEntry) : Type 0 where
  pub looks : length entry.input.seen ≡ extent.threads
  pub rooms : length entry.input.rooms ≡ extent.threads
  pub most : length entry.actions ≤ MOST_ACTIONS
  pub words : HasWords entry
  pub seen : Each IsLookInRange entry.input.seen
  pub actions : Each (IsActionInRange extent) entry.actions

-- a history: no more passes than a file can have, and each in range
pub record IsInRange (extent : Extent) (history : List PassEntry) : Type 0 where
  pub passes : length history ≤ MOST_PASSES
  pub each : Each (IsEntryInRange extent) history

-- a history that a file can hold: not too many passes, and numbers that fields can spell
pub record IsSized (history : List PassEntry) : Type 0 where
  pub passes : length history ≤ MOST_PASSES
  pub words : Each HasWords history
