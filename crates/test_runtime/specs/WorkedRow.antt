-- A worked run: one thread, which took its Run between two passes and published three times.
use Rattle.std.specs.Prelude.{ℕ, true, List, [], ◌∷◌}
use Rattle.cal_machine.specs.declared.command.Command.TheVariants.{Run}
use Rattle.cal_signal.specs.declared.record.Record.{Record}
use Rattle.cal_signal.specs.declared.look.Look.{Look}
use Rattle.cal_signal.specs.declared.look.Look.TheVariants as found
use Rattle.cal_policy.specs.declared.history.look.Seen.{Seen}
use Rattle.cal_policy.specs.declared.history.look.Seen.TheVariants.{Whole}
use Rattle.cal_policy.specs.declared.history.action.Action.{Action}
use Rattle.cal_policy.specs.declared.history.action.Action.TheVariants.{Grant}
use Rattle.cal_policy.specs.declared.history.entry.PassEntry.{PassEntry}
use Rattle.cal_kthread.specs.declared.journal.entry.Entry.{Entry}
use Rattle.cal_kthread.specs.declared.journal.entry.Entry.TheVariants.{Arrived, Took, Served}
use Rattle.cal_kthread.specs.declared.journal.entry.Entry.TheVariants.{Published}
use Rattle.cal_world.specs.declared.event.Event.{Event}
use Rattle.cal_world.specs.declared.event.Event.TheVariants.{Take, Publish, Read, Decide, Watch}

-- what it published: with a request that waits, at work on it, and after it
abbrev pub waiting : Record
waiting = record {
  taken = 0;
  running = 0;
  queued = 1;
  oldest = 100;
  started = 0;
  misses = 0;
  stamp = 100;
  paused = 0;
  since = 0;
}

abbrev pub at_work : Record
at_work = record {
  taken = 1;
  running = 1;
  queued = 0;
  oldest = 0;
  started = 120;
  misses = 7;
  stamp = 120;
  paused = 0;
  since = 0;
}

abbrev pub served : Record
served = record {
  taken = 1;
  running = 1;
  queued = 0;
  oldest = 0;
  started = 0;
  misses = 14;
  stamp = 140;
  paused = 0;
  since = 0;
}

-- a pass on this look at it, its ring with room
abbrev pub pass_at : ℕ → Seen → List Action → PassEntry
pass_at now look actions = record {
  input = record { now = now; bandwidth = 0; seen = look ∷ []; rooms = true ∷ [] };
  actions = actions;
}

-- one that grants it a core, and one that does nothing
abbrev pub granting : PassEntry
granting = pass_at 111 (Whole 1 waiting) (Grant 0 0 3 ∷ [])

abbrev pub resting : PassEntry
resting = pass_at 130 (Whole 2 at_work) []

abbrev pub passes : List PassEntry
passes = granting ∷ resting ∷ []

abbrev pub journal : List Entry
journal =
    Arrived (record { id = 1; work = 2; misses = 7 })
    ∷ Published 1 waiting
    ∷ Took 1 (Run 0)
    ∷ Published 2 at_work
    ∷ Served 1
    ∷ Published 3 served
    ∷ []

-- rounds of a watcher, the second one while the thread published
abbrev pub rounds : List (List Look)
rounds = (found.Whole 1 waiting ∷ []) ∷ (found.Busy 2 4 ∷ []) ∷ (found.Whole 3 served ∷ []) ∷ []

-- its steps in order: a watcher's whole looks come after all else, and its busy one gives nothing
abbrev pub order : List Event
order =
    Publish 0 waiting
    ∷ Read 0 1
    ∷ Decide granting
    ∷ Take 0
    ∷ Publish 0 at_work
    ∷ Read 0 2
    ∷ Decide resting
    ∷ Publish 0 served
    ∷ Watch 0 1
    ∷ Watch 0 3
    ∷ []
