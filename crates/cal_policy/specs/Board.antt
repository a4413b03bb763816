-- What each part of a board keeps, in which numbers, and when it is as the actions say. When the
-- whole board is the state of a history, State.antt says.
pub mod CoreSets
pub mod Counts
pub mod Debts
pub mod KeepingSets
pub mod Losing
pub mod OpenCores
pub mod RecentCores
pub mod Survey
pub mod Unshown
use Rattle.std.specs.Prelude.{◌≡◌, ℕ, ◌<◌, ◌≤◌, ◌^◌, List, min, Option, Some, None}
use Rattle.std.specs.Prelude.{slice_index, slice_index_or, option_map, length}
use Rattle.std.specs.Option.{IfSome}
use Rattle.cal_machine.specs.Table.{Table}
use Rattle.cal_machine.specs.declared.core_set.CoreSet.{CoreSet}
use Rattle.cal_machine.specs.CoreSet.{has}
use Rattle.cal_machine.specs.declared.machine.TheConstants.{MOST_CORES}
use Rattle.cal_machine.specs.declared.numbering.TheConstants.{MOST_THREADS}
use Rattle.cal_machine.specs.declared.task_table.TheConstants.{MOST_TASKS}
use Rattle.cal_machine.specs.TableTasks.{threads_of_table}
use Rattle.cal_policy.specs.declared.history.action.Action.{Action}
use Rattle.cal_policy.specs.declared.history.action.Action.TheVariants.{Free, Unban, Ban}
use Rattle.cal_policy.specs.declared.history.action.Action.TheVariants.{Revoke, Cap, Grant}
use Rattle.cal_policy.specs.declared.history.look.Seen.{Seen}
use Rattle.cal_policy.specs.declared.history.input.Input.{Input}
use Rattle.cal_policy.specs.declared.board.holders.Placement as placements
use Rattle.cal_policy.specs.declared.board.holders.Holder.{Holder}
use Rattle.cal_policy.specs.declared.board.holders.Holder.TheVariants as holders
use Rattle.cal_policy.specs.declared.board.holders.Holding.{Holding}
use Rattle.cal_policy.specs.declared.board.bans.Bans.{Bans}
use Rattle.cal_policy.specs.declared.board.caps.Caps.{Caps}
use Rattle.cal_policy.specs.declared.board.records.Keeping.{Keeping}
use Rattle.cal_policy.specs.declared.board.Board.{Board}
use Rattle.cal_policy.specs.History.{holder_of}
use Rattle.cal_policy.specs.History.{last_placement, sent_to, ban_of, last_cap}
use Rattle.cal_policy.specs.History.Looks.{kept_by}
use Rattle.cal_policy.specs.Pass.Grants.{is_granted_in}

-- a number of commands as it is kept: no record acknowledges 2^64, so what is above need not be
-- told apart
abbrev pub kept_number : ℕ → ℕ
kept_number n = min n (2 ^ 64)

abbrev pub kept_placement : placements.Placement → placements.Placement
kept_placement placement = record {
  thread = placement.thread;
  number = kept_number placement.number;
}

abbrev pub kept_holder : Holder → Holder
kept_holder holders.Free = holders.Free
kept_holder (holders.Held placement) = holders.Held (kept_placement placement)
kept_holder (holders.Leaving placement cause) = holders.Leaving (kept_placement placement) cause

-- what put a thread on a core that is held or being left
abbrev pub placement_of : Holder → Option placements.Placement
placement_of holders.Free = None
placement_of (holders.Held placement) = Some placement
placement_of (holders.Leaving placement cause) = Some placement

-- the last grant of core c, as it is kept
abbrev pub granted_in : Holding → ℕ → Option placements.Placement
granted_in h c = slice_index_or h.granted c None

-- who has core c, as it is kept
abbrev pub holder_in : Holding → ℕ → Holder
holder_in h c = slice_index_or h.holders c holders.Free

-- the core's holder on the board; nobody if there is no core
abbrev pub holder_at : Holding → Option ℕ → Holder
holder_at h None = holders.Free
holder_at h (Some c) = holder_in h c

-- the core whose holder an action changes
abbrev pub core_changed : Action → Option ℕ
core_changed (Free core) = Some core
core_changed (Revoke core cause) = Some core
core_changed (Grant core thread class) = Some core
core_changed (Unban core) = None
core_changed (Ban core thread started) = None
core_changed (Cap task cap) = None

-- who has each core, and what was sent, are as the actions x say
pub record HoldersAgree (h : Holding) (x : List Action) : Type 0 where
  pub granted : (c : ℕ) → c < MOST_CORES →
      slice_index_or h.granted c None ≡ option_map kept_placement (last_placement x c)
  pub holders : (c : ℕ) → c < MOST_CORES →
      slice_index_or h.holders c holders.Free ≡ kept_holder (holder_of x c)
  pub sent : (k : ℕ) → k < MOST_THREADS → slice_index h.sent k ≡ kept_number (sent_to x k)

-- threads are below this number, and numbers of commands at most 2^64
pub record HoldingSound (threads : ℕ) (h : Holding) : Type 0 where
  pub granted : (c : ℕ) → IfSome (slice_index_or h.granted c None)
      (λ placement. placement.thread < threads)
  pub holders : (c : ℕ) → IfSome (placement_of (slice_index_or h.holders c holders.Free))
      (λ placement. placement.thread < threads)
  pub sent : (k : ℕ) → slice_index h.sent k ≤ 2 ^ 64

-- bans are as the actions x say
pub record BansAgree (b : Bans) (x : List Action) : Type 0 where
  pub bans : (c : ℕ) → c < MOST_CORES → slice_index_or b.bans c None ≡ ban_of x c

-- banned threads are below this number
pub record BansSound (threads : ℕ) (b : Bans) : Type 0 where
  pub bans : (c : ℕ) → IfSome (slice_index_or b.bans c None) (λ ban. ban.thread < threads)

-- caps are as the actions x say
pub record CapsAgree (a : Caps) (x : List Action) : Type 0 where
  pub caps : (t : ℕ) → t < MOST_TASKS → slice_index_or a.caps t None ≡ last_cap x t

-- the misses of the records kept after these looks, which are all but those of the last pass
pub record KeepsBefore (r : Keeping) (looks : List (List Seen)) : Type 0 where
  pub before : (k : ℕ) → k < MOST_THREADS → slice_index r.before k ≡ (kept_by looks k).misses

-- cores are below this number, and threads below that one; tasks below MOST_TASKS
abbrev pub NamesCores : ℕ → ℕ → Action → Type 0
NamesCores cores threads (Free core) = core < cores
NamesCores cores threads (Unban core) = core < cores
NamesCores cores threads (Ban core thread started) = (core < cores) × (thread < threads)
NamesCores cores threads (Revoke core cause) = core < cores
NamesCores cores threads (Cap task cap) = task < MOST_TASKS
NamesCores cores threads (Grant core thread class) = (core < cores) × (thread < threads)

-- every thread that a holder, a last grant or a ban names is below this number
pub record BoardSound (threads : ℕ) (b : Board) : Type 0 where
  pub holding : HoldingSound threads b.holding
  pub bans : BansSound threads b.bans

-- the action's cores, threads and tasks are the table's
abbrev pub NamesTable : Table → Action → Type 0
NamesTable table action = NamesCores table.cores (threads_of_table table) action

-- the set has the cores that were granted in this pass
pub record HasGranted (granted : CoreSet) (acts : List Action) : Type 0 where
  pub fresh : (c : ℕ) → c < MOST_CORES → has granted c ≡ is_granted_in acts c

-- one look and one answer on room for each thread
pub record HasSizes (table : Table) (input : Input) : Type 0 where
  pub looks : length input.seen ≡ threads_of_table table
  pub rooms : length input.rooms ≡ threads_of_table table
