-- What C is told of the table, of a thread, and of one that is gone.
use Rattle.std.specs.Prelude.{◌≡◌, ℕ, ◌<◌, Some, List, [], ◌∷◌, length, slice_get}
use Rattle.std.specs.List.{Contains}
use Rattle.cal_machine.specs.Table.{Table}
use Rattle.cal_machine.specs.Tasks.{task_at, first_thread}
use Rattle.cal_machine.specs.declared.task.Kind.{Kind}
use Rattle.cal_machine.specs.declared.task.Kind.TheVariants.{LatencyCritical, BestEffort}
use Rattle.cal_signal.specs.declared.record.Record.{Record}
use Rattle.cal_signal.specs.declared.shown.Shown.{Shown}
use Rattle.cal_policy.specs.declared.board.holders.Placement as placements
use Rattle.cal_policy.specs.declared.history.action.Action.TheVariants.{Free}
use Rattle.cal_policy.specs.declared.history.entry.PassEntry.{PassEntry}
use Rattle.cal_policy.specs.declared.history.input.Input.{Input}
use Rattle.cal_policy.specs.declared.history.look.Seen.TheVariants as seen
use Rattle.cal_policy.specs.declared.policy.Policy.{Policy}
use Rattle.cal_policy.specs.Board.{placement_of}
use Rattle.cal_policy.specs.History.{actions_of, looks_of, holder_of}
use Rattle.cal_policy.specs.History.Looks.{kept_by}
use Rattle.cal_policy.specs.Judgement.Gone.{shown_when_gone, IsKeptOfGone}
use Rattle.cal_policy.specs.Judgement.OneByOne.{sent_as_u64}
use Rattle.cal_policy.specs.Policies.{pass_by}
use Rattle.cal_policy.specs.Setting.{setting}
use Rattle.cal_machine.specs.TableTasks.{threads_of_table, owner_of}
use Rattle.cal_guard.specs.Permitted.{ArePermitted}
use Rattle.caladan_c.specs.declared.found.Found.{Found}
use Rattle.caladan_c.specs.declared.told.facts.MachineFacts.{MachineFacts}
use Rattle.caladan_c.specs.declared.told.facts.TaskRow.{TaskRow}
use Rattle.caladan_c.specs.declared.told.facts.ThreadState.{ThreadState}

-- a kind as a number
abbrev pub kind_number : Kind → ℕ
kind_number LatencyCritical = 1
kind_number BestEffort = 2

-- the machine, in numbers
abbrev pub machine_of : Table → MachineFacts
machine_of table = record {
  cores = table.cores;
  tasks = length table.tasks;
  threads = threads_of_table table;
  bandwidth_limit = table.bandwidth_limit;
}

-- a task of the table, in numbers
abbrev pub row_of : Table → ℕ → TaskRow
row_of table task = record {
  kind = kind_number (task_at table.tasks task).kind;
  guaranteed = (task_at table.tasks task).guaranteed;
  limit = (task_at table.tasks task).limit;
  first_thread = first_thread table.tasks task;
  delay = (task_at table.tasks task).delay;
  request = (task_at table.tasks task).request;
}

-- a thread after this history: its task, the commands sent to it, and those that its kept record
-- acknowledges
abbrev pub state_of : Table → List PassEntry → ℕ → ThreadState
state_of table history thread = record {
  task = owner_of table thread;
  sent = sent_as_u64 history thread;
  taken = (kept_by (looks_of history) thread).taken;
}

-- a kept record, as C is told: a look with its words, in which all else is 0
abbrev pub found_kept : Record → Found
found_kept rec = record { busy = 0; room = 0; number = 0; second = 0; rec = rec }

-- a record and its place, as a look that C is told; there is no room
abbrev pub found_shown : Shown → Found
found_shown shown = record {
  busy = 0;
  room = 0;
  number = shown.number;
  second = 0;
  rec = shown.rec;
}

-- the look of a thread that is gone: a pass takes it as it is and keeps it, and every pass with it
-- frees each core that the thread holds or leaves. It has no room, and no pass grants a core to a
-- thread whose ring has none (cal_laws: `commands_go_where_is_room`)
pub record IsLookOfGone (policy : Policy) (table : Table) (history : List PassEntry) (k : ℕ)
    (look : Found) : Type 0 where
  pub is : look ≡ found_shown (shown_when_gone history k)
  pub kept : IsKeptOfGone table history k
  pub frees : (input : Input) → slice_get input.seen k ≡ Some (seen.Whole
      (shown_when_gone history k).number (shown_when_gone history k).rec) →
      (c : ℕ) (p : placements.Placement) → c < table.cores →
      placement_of (holder_of (actions_of history) c) ≡ Some p → p.thread ≡ k →
      Contains (pass_by policy (setting table history input)) (Free c)

-- the same where somebody else chooses the actions: a pass takes it as it is and keeps it, and on
-- every input with it the pass is permitted that frees one core which the thread holds or leaves,
-- and does nothing else
pub record IsGuardedLookOfGone (table : Table) (history : List PassEntry) (k : ℕ)
    (look : Found) : Type 0 where
  pub is : look ≡ found_shown (shown_when_gone history k)
  pub kept : IsKeptOfGone table history k
  pub may : (input : Input) → slice_get input.seen k ≡ Some (seen.Whole
      (shown_when_gone history k).number (shown_when_gone history k).rec) →
      (c : ℕ) (p : placements.Placement) → c < table.cores →
      placement_of (holder_of (actions_of history) c) ≡ Some p → p.thread ≡ k →
      ArePermitted (setting table history input) (Free c ∷ [])
