-- What a list of events says of the scheduler and of each thread, told so that one more event is
-- one step: each is carried along the list, next to the events before. That it is what cal_world
-- reads off the whole list is shown in Bridge.antt.
use Rattle.cal_linear.proofs.Common.{ℕ, ◌+◌, List, [], ◌∷◌, ◌++◌, length, Option, Some, None, ◌==◌, option_map, option_to_list, if◌then◌else◌, filter_map, Command, Record, page_of, last_from, Seen, Whole, PassEntry, actions_of, commands_to, Entry, Took, Yielded, Published, state_after, records_of, history_in, watches_in, Event, Take, Yield, Publish, Read, Skip, Decide}
use Rattle.std.specs.Prelude.{slice_get}

-- the command after the first `taken` ones, as the entry of its taking
abbrev pub took_next : ℕ → List Command → List Entry
took_next taken commands = option_to_list (option_map (Took (taken + 1)) (slice_get commands taken))

-- what an event adds to the journal of thread k, where `own` stands in it and `history` was
-- decided: a Take the next of the commands sent to the thread, a Publish the record with the next
-- number
abbrev pub adds_to : ℕ → List Entry → List PassEntry → Event → List Entry
adds_to k own history (Take thread) = if thread == k then took_next (state_after own).taken (commands_to (actions_of history) k) else []
adds_to k own history (Yield thread) = if thread == k then Yielded ∷ [] else []
adds_to k own history (Publish thread rec) = if thread == k then Published (length (records_of own) + 1) rec ∷ [] else []
adds_to k own history _ = []

-- the same of more events in turn, after the events `before`
abbrev pub journal_after : ℕ → List Entry → List Event → List Event → List Entry
journal_after k own before [] = own
journal_after k own before (event ∷ events) = journal_after k (own ++ adds_to k own (history_in before) event) (before ++ event ∷ []) events

-- what thread k did, as a journal: its Takes with their commands, its Yields, its Publishes with
-- their numbers
abbrev pub journal_along : List Event → ℕ → List Entry
journal_along events k = journal_after k [] [] events

-- the records that thread k published
abbrev pub published_along : List Event → ℕ → List Record
published_along events k = records_of (journal_along events k)

-- the place of a Read of thread k
abbrev pub place_of_read : ℕ → Event → Option ℕ
place_of_read k (Read thread place) = if thread == k then Some place else None
place_of_read k _ = None

-- the floor of thread k: the place of its last Read, 0 where there is none
abbrev pub floor_along : List Event → ℕ → ℕ
floor_along events k = last_from 0 (filter_map (place_of_read k) events)

-- the place of such a pair, where it is thread k's
abbrev pub place_at : ℕ → ℕ × ℕ → Option ℕ
place_at k watch = if watch.0 == k then Some watch.1 else None

-- the watch floor of thread k: the place of its last Watch, 0 where there is none
abbrev pub watch_floor_along : List Event → ℕ → ℕ
watch_floor_along events k = last_from 0 (filter_map (place_at k) (watches_in events))

-- what an event makes of the looks since the last Decide: a Read adds a whole look of the record at
-- its place, a Skip its own, and after a Decide there is none
abbrev pub looks_with : List Seen → List Event → Event → List Seen
looks_with looks before (Read thread place) = looks ++ option_to_list (option_map (Whole place) (slice_get (page_of (published_along before thread)) place))
looks_with looks before (Skip thread seen) = looks ++ seen ∷ []
looks_with looks before (Decide entry) = []
looks_with looks before _ = looks

abbrev pub looks_after : List Seen → List Event → List Event → List Seen
looks_after looks before [] = looks
looks_after looks before (event ∷ events) = looks_after (looks_with looks before event) (before ++ event ∷ []) events

-- the looks since the last Decide, in order
abbrev pub looks_along : List Event → List Seen
looks_along events = looks_after [] [] events
