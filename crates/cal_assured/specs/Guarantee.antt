-- A guarantee is given: a latency-critical task that goes on waiting below its guarantee is granted
-- a core within as many passes as a thread takes to leave.
use Rattle.std.specs.Prelude.{◌≡◌, ℕ, ◌+◌, ◌<◌, ◌≤◌, Bool, true, false, List, length, take, Some, slice_get}
use Rattle.cal_machine.specs.Table.{Table, IsTable}
use Rattle.cal_machine.specs.TableTasks.{owner_of, threads_of_table}
use Rattle.cal_policy.specs.declared.history.action.Action.TheVariants.{Free, Grant}
use Rattle.cal_policy.specs.declared.history.entry.PassEntry.{PassEntry}
use Rattle.cal_policy.specs.declared.board.holders.Holder.{Holder}
use Rattle.cal_policy.specs.declared.board.holders.Holder.TheVariants as holders
use Rattle.cal_policy.specs.History.{actions_of, holder_of}
use Rattle.cal_policy.specs.Assured.Short.{waits_short}
use Rattle.cal_policy.specs.Assured.Pass.{IsLegal, bounded_of}
use Rattle.cal_policy.specs.Setting.{setting_of, so_far, has_room}

-- the core is being left
abbrev pub is_leaving : Holder → Bool
is_leaving holders.Free = false
is_leaving (holders.Held placement) = false
is_leaving (holders.Leaving placement cause) = true

-- core c is being left where pass q begins, and was revoked at least d passes before: in pass
-- `since`, or before that
pub record WasLongRevoked (history : List PassEntry) (d q c : ℕ) : Type 0 where
  pub since : ℕ
  pub early : since + d ≤ q
  -- from its end on to the beginning of pass q the core is being left
  pub left : (p : ℕ) → since < p → p ≤ q →
      is_leaving (holder_of (actions_of (take p history)) c) ≡ true

-- a pass frees core c
pub record IsFreedIn (entry : PassEntry) (c : ℕ) : Type 0 where
  pub place : ℕ
  pub freed : slice_get entry.actions place ≡ Some (Free c)

-- what is asked of each pass q through which task t waits
pub record AsksOfPass (table : Table) (history : List PassEntry) (t d q : ℕ)
    (entry : PassEntry) : Type 0 where
  -- where its grants begin, the task is short and waits
  pub waiting : waits_short (setting_of table (take q history) entry)
      (so_far (setting_of table (take q history) entry)
      (bounded_of (setting_of table (take q history) entry))) t ≡ true
  -- every ring has room
  pub rooms : (k : ℕ) → k < threads_of_table table →
      has_room (setting_of table (take q history) entry) k ≡ true
  -- each core that is being left where the pass begins, and was revoked at least d passes before, is
  -- freed in it
  pub left : (c : ℕ) → c < table.cores → WasLongRevoked history d q c → IsFreedIn entry c

-- through the passes p to p + d of a legal history task t waits, where threads leave within d passes
pub record WaitsThrough (table : Table) (history : List PassEntry) (t d p : ℕ) : Type 0 where
  -- the table is an accepted one
  pub accepted : IsTable table
  -- each pass of the history is one of this policy
  pub legal : IsLegal table history
  -- the table has the task
  pub own : t < length table.tasks
  -- a thread takes at least one pass to leave
  pub some : 1 ≤ d
  -- the history has the passes
  pub passes : p + d < length history
  -- each of them is as asked
  pub each : (q : ℕ) (entry : PassEntry) → p ≤ q → q ≤ p + d → slice_get history q ≡ Some entry →
      AsksOfPass table history t d q entry

-- in one of the passes p to p + d a core is granted to a thread of task t
pub record IsGiven (table : Table) (history : List PassEntry) (t d p : ℕ) : Type 0 where
  pub pass : ℕ
  pub first : p ≤ pass
  pub last : pass ≤ p + d
  pub entry : PassEntry
  pub is_pass : slice_get history pass ≡ Some entry
  pub place : ℕ
  pub core : ℕ
  pub thread : ℕ
  pub class : ℕ
  pub granted : slice_get entry.actions place ≡ Some (Grant core thread class)
  pub task : owner_of table thread ≡ t

-- a task that waits so is granted a core
abbrev pub GuaranteesAreGiven : Type 0
GuaranteesAreGiven = (table : Table) (history : List PassEntry) (t d p : ℕ) →
    WaitsThrough table history t d p → IsGiven table history t d p
