-- What a list of events says of the scheduler and of each kernel thread. The events are a list from
-- the first on; nothing is carried along.
use Rattle.std.specs.Prelude.{ℕ, ◌+◌, ◌==◌, Bool, false, List, [], ◌∷◌}
use Rattle.std.specs.Prelude.{Option, Some, None, slice_get, if◌then◌else◌}
use Rattle.std.specs.List.{filter_map, count_by}
use Rattle.cal_machine.specs.declared.command.Command.{Command}
use Rattle.cal_policy.specs.declared.history.action.Action.{Action}
use Rattle.cal_policy.specs.declared.history.entry.PassEntry.{PassEntry}
use Rattle.cal_policy.specs.History.Lists.{each_of}
use Rattle.cal_policy.specs.History.{actions_of, commands_to}
use Rattle.cal_kthread.specs.declared.journal.entry.Entry.{Entry}
use Rattle.cal_kthread.specs.declared.journal.entry.Entry.TheVariants.{Took, Yielded, Published}
use Rattle.cal_world.specs.declared.event.Event.{Event}
use Rattle.cal_world.specs.declared.event.Event.TheVariants.{Take, Yield, Publish, Decide}

-- the pass of a Decide
abbrev pub entry_in : Event → Option PassEntry
entry_in (Decide entry) = Some entry
entry_in _ = None

-- the history: the passes of the Decides, in order
abbrev pub history_in : List Event → List PassEntry
history_in events = filter_map entry_in events

-- all actions so far
abbrev pub actions_in : List Event → List Action
actions_in events = actions_of (history_in events)

-- the event is a Take by thread k
abbrev pub is_take_by : ℕ → Event → Bool
is_take_by k (Take thread) = thread == k
is_take_by k _ = false

-- the event is a Publish by thread k
abbrev pub is_publish_by : ℕ → Event → Bool
is_publish_by k (Publish thread rec) = thread == k
is_publish_by k _ = false

-- how often thread k took a command, and how often it published
abbrev pub takes_in : List Event → ℕ → ℕ
takes_in events k = count_by (is_take_by k) events

abbrev pub publishes_in : List Event → ℕ → ℕ
publishes_in events k = count_by (is_publish_by k) events

-- the next command that thread k takes: of those sent to it, the one after those that it took
abbrev pub next_command : List Event → ℕ → Option Command
next_command events k = slice_get (commands_to (actions_in events) k) (takes_in events k)

-- a command taken, where there was one
abbrev pub took : ℕ → Option Command → List Entry
took number None = []
took number (Some command) = Took number command ∷ []

-- what an event, after these, puts into the journal of thread k
abbrev pub entries_for : ℕ → List Event → Event → List Entry
entries_for k before (Take thread) =
    if thread == k then took (takes_in before k + 1) (next_command before k) else []
entries_for k before (Yield thread) = if thread == k then Yielded ∷ [] else []
entries_for k before (Publish thread rec) =
    if thread == k then Published (publishes_in before k + 1) rec ∷ [] else []
entries_for k before _ = []

-- the journal of thread k: its Takes with their commands, its Yields, and its Publishes with their
-- numbers, in order
abbrev pub journal_in : List Event → ℕ → List Entry
journal_in events k = each_of (entries_for k) events
