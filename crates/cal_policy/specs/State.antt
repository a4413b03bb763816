-- When a board is the state of a history. Six words say it, here and in the crates above:
--
--   of a board beside a task table
--     `IsReady`        its counts and sets are those of its own holders, last grants, bans and
--                      records, and it names no thread that the table has not: passes can be
--                      decided from it
--     `IsOfTable`      the table is an accepted one, and the board is ready for it
--   of a board and what led to it
--     `IsStateAfter`   it is the state that the passes of a history leave
--     `Stands`         it is the state within a pass, after the actions of it so far
--   their parts
--     `Agrees`         its cores, bans, caps and debts are as these actions say
--     `KeepingAgrees`  its records are as these looks say
--
-- A book and a guard keep a board, and say the same of it: `board_in` is the board that they keep.
use Rattle.std.specs.Prelude.{◌≡◌, ℕ, ◌<◌, List, [], ◌∷◌, ◌++◌, slice_index_or}
use Rattle.cal_machine.specs.Table.{Table, IsTable}
use Rattle.cal_machine.specs.TableTasks.{threads_of_table}
use Rattle.cal_machine.specs.declared.numbering.TheConstants.{MOST_THREADS}
use Rattle.cal_policy.specs.declared.history.action.Action.{Action}
use Rattle.cal_policy.specs.declared.history.entry.PassEntry.{PassEntry}
use Rattle.cal_policy.specs.declared.history.look.Seen.{Seen}
use Rattle.cal_policy.specs.declared.board.Board.{Board}
use Rattle.cal_policy.specs.declared.board.records.Keeping.{Keeping}
use Rattle.cal_policy.specs.Board.{HoldersAgree, BansAgree, CapsAgree, BoardSound}
use Rattle.cal_policy.specs.Board.{HasGranted, KeepsBefore, holder_in}
use Rattle.cal_policy.specs.Board.CoreSets.{Sorts, IsSetOfBanned}
use Rattle.cal_policy.specs.Board.Debts.{DebtsAgree}
use Rattle.cal_policy.specs.Board.KeepingSets.{KeepsSets, kept_in, shown_in}
use Rattle.cal_policy.specs.Board.OpenCores.{Opens}
use Rattle.cal_policy.specs.Board.RecentCores.{AreRecent, last_thread_in}
use Rattle.cal_policy.specs.Board.Survey.{Surveys}
use Rattle.cal_policy.specs.Board.Unshown.{Shows}
use Rattle.cal_policy.specs.History.{actions_of, looks_of}
use Rattle.cal_policy.specs.History.Looks.{kept_by, last_shown}
use Rattle.cal_policy.specs.Setting.{Setting, so_far}
use Rattle.cal_signal.specs.Records.{zero_record}

-- the board is ready for passes on the table
pub record IsReady (table : Table) (b : Board) : Type 0 where
  -- no thread that it names is past the last that a table may have
  pub sound : BoardSound MOST_THREADS b
  -- nor past the last of this table
  pub own : BoardSound (threads_of_table table) b
  -- its counts are those of its cores
  pub counts : Surveys table (holder_in b.holding) b.survey
  -- each core is in the sets where its holder and its ban say
  pub sets : Sorts (holder_in b.holding) b.sets
  -- and in those of the cores that are open where both say
  pub opens : Opens (holder_in b.holding) b.sets.banned b.open_cores
  -- each core is with those of the task that had it last
  pub recent : AreRecent table (last_thread_in b.holding) b.recent
  -- each thread is in the sets where its kept record says
  pub keeping : KeepsSets b.keeping
  -- each core that its thread's kept record does not show is in the set of those
  pub shows : Shows (holder_in b.holding) (kept_in b.keeping) b.unshown

-- what a pass is decided by: an accepted table, and a board that is ready for it
pub record IsOfTable (table : Table) (b : Board) : Type 0 where
  pub accepted : IsTable table
  pub ready : IsReady table b

-- the board says of cores, bans, caps and debts what the actions x say
pub record Agrees (b : Board) (x : List Action) : Type 0 where
  pub holding : HoldersAgree b.holding x
  pub bans : BansAgree b.bans x
  pub caps : CapsAgree b.caps x
  pub banned : IsSetOfBanned b.sets.banned x
  pub debts : DebtsAgree b.debts x

-- records are as all these looks say, those of the last pass included
pub record KeepingAgrees (r : Keeping) (looks : List (List Seen)) : Type 0 where
  pub kept : (k : ℕ) → k < MOST_THREADS → slice_index_or r.kept k zero_record ≡ kept_by looks k
  pub shown : (k : ℕ) → k < MOST_THREADS → shown_in r k ≡ last_shown looks k

-- the board is the state that the history leaves: it agrees with all its actions and all its looks
pub record IsStateAfter (b : Board) (history : List PassEntry) : Type 0 where
  pub actions : Agrees b (actions_of history)
  pub looks : KeepingAgrees b.keeping (looks_of history)

-- the board stands in a pass, after the actions acts of it: it agrees with all actions so far and
-- with all looks, the pass's own included; which cores the pass has granted, and what was kept
-- before its looks, it has too
pub record Stands (b : Board) (s : Setting) (acts : List Action) : Type 0 where
  pub agrees : Agrees b (so_far s acts)
  pub fresh : HasGranted b.fresh acts
  pub looks : KeepingAgrees b.keeping (looks_of s.history ++ s.input.seen ∷ [])
  pub before : KeepsBefore b.keeping (looks_of s.history)
