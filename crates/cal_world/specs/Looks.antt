-- The looks that a pass goes by: those since the Decide before.
use Rattle.std.specs.Prelude.{ℕ, ◌+◌, List, length, drop, Option, Some, None, slice_index_or}
use Rattle.std.specs.List.{filter_map}
use Rattle.std.specs.Option.{unwrap_or}
use Rattle.cal_signal.specs.declared.record.Record.{Record}
use Rattle.cal_signal.specs.Records.{zero_record}
use Rattle.cal_policy.specs.declared.history.look.Seen.{Seen}
use Rattle.cal_policy.specs.declared.history.look.Seen.TheVariants.{Whole}
use Rattle.cal_policy.specs.History.Lists.{last_of}
use Rattle.cal_world.specs.declared.event.Event.{Event}
use Rattle.cal_world.specs.declared.event.Event.TheVariants.{Read, Skip, Decide}
use Rattle.cal_world.specs.Threads.{page_in}

-- how many events there are up to a Decide, itself included
abbrev pub decided_at : List Event → Event → Option ℕ
decided_at before (Decide entry) = Some (length before + 1)
decided_at before _ = None

-- the events since the last Decide; all, where there is none
abbrev pub since_decide : List Event → List Event
since_decide events = drop (unwrap_or (last_of decided_at events) 0) events

-- the record at a place of thread k's page
abbrev pub record_at : List Event → ℕ → ℕ → Record
record_at events k number = slice_index_or (page_in events k) number zero_record

-- a look as a pass takes it: a Read is a whole look at what the page of its thread has there, after
-- all these events
abbrev pub look_made : List Event → Event → Option Seen
look_made events (Read thread number) = Some (Whole number (record_at events thread number))
look_made events (Skip thread seen) = Some seen
look_made events _ = None

-- the looks since the last Decide, in order
abbrev pub looks_since : List Event → List Seen
looks_since events = filter_map (look_made events) (since_decide events)
