-- The events of a journal, and the part of one between two of its publications.
use Rattle.std.specs.Prelude.{ℕ, ◌-◌, List, [], Option, Some, None, slice_index_or}
use Rattle.std.specs.List.{filter_map}
use Rattle.cal_kthread.specs.declared.journal.entry.Entry.{Entry}
use Rattle.cal_kthread.specs.declared.journal.entry.Entry.TheVariants.{Took, Yielded, Published}
use Rattle.cal_kthread.specs.Journal.Entries.{up_to, past}
use Rattle.cal_world.specs.declared.event.Event.{Event}
use Rattle.cal_world.specs.declared.event.Event.TheVariants.{Take, Yield, Publish}

-- the event for which an entry of thread k's journal stands
abbrev pub event_of : ℕ → Entry → Option Event
event_of k (Took number command) = Some (Take k)
event_of k Yielded = Some (Yield k)
event_of k (Published number rec) = Some (Publish k rec)
event_of k _ = None

abbrev pub events_of : ℕ → List Entry → List Event
events_of k = filter_map (event_of k)

-- what stands in a journal after one publication, up to another; nothing where that is no later one
abbrev pub between : ℕ → ℕ → List Entry → List Entry
between from to entries = up_to (to - from) (past from entries)

-- the journal of thread k
abbrev pub journal_at : List (List Entry) → ℕ → List Entry
journal_at journals k = slice_index_or journals k []
