-- One order of the steps of a scheduler and its threads, of which each kept its own steps in order.
use Rattle.std.specs.Prelude.{ℕ, ◌+◌, List, [], ◌∷◌, ◌++◌}
use Rattle.std.specs.List.{flat_map}
use Rattle.cal_signal.specs.declared.look.Look.{Look}
use Rattle.cal_signal.specs.declared.look.Look.TheVariants as found
use Rattle.cal_policy.specs.History.Lists.{each_of}
use Rattle.cal_policy.specs.declared.history.look.Seen.{Seen}
use Rattle.cal_policy.specs.declared.history.look.Seen.TheVariants.{Whole}
use Rattle.cal_policy.specs.declared.history.entry.PassEntry.{PassEntry}
use Rattle.cal_kthread.specs.declared.journal.entry.Entry.{Entry}
use Rattle.cal_world.specs.declared.event.Event.{Event}
use Rattle.cal_world.specs.declared.event.Event.TheVariants.{Read, Skip, Decide, Watch}
use Rattle.cal_kthread.specs.Journal.Entries.{past}
use Rattle.cal_linear.specs.Steps.{events_of, between, journal_at}
use Rattle.cal_linear.specs.Reads.{furthest}

-- A look at thread k, of whose journal all up to place `from` is listed. Where it read a record:
-- the journal up to its publication, then the Read. Else the Skip alone.
abbrev pub look_events : ℕ → List Entry → ℕ → Seen → List Event
look_events k journal from (Whole number rec) =
    events_of k (between from number journal) ++ Read k number ∷ []
look_events k journal from seen = Skip k seen ∷ []

-- the looks of a pass, from thread k on, where the journals are listed up to these places
abbrev pub looks_from : List (List Entry) → (ℕ → ℕ) → ℕ → List Seen → List Event
looks_from journals places k [] = []
looks_from journals places k (seen ∷ looks) =
    look_events k (journal_at journals k) (places k) seen
    ++ looks_from journals places (k + 1) looks

-- a pass after these ones: its looks, and then its Decide
abbrev pub pass_events : List (List Entry) → List PassEntry → PassEntry → List Event
pass_events journals before entry =
    looks_from journals (furthest before) 0 entry.input.seen ++ Decide entry ∷ []

-- what each journal has past these places, from thread k on
abbrev pub rests_from : (ℕ → ℕ) → ℕ → List (List Entry) → List Event
rests_from places k [] = []
rests_from places k (journal ∷ journals) =
    events_of k (past (places k) journal) ++ rests_from places (k + 1) journals

-- the passes in order, and then the rest of each journal, in thread order
abbrev pub passes_and_rests : List PassEntry → List (List Entry) → List Event
passes_and_rests history journals =
    each_of (pass_events journals) history ++ rests_from (furthest history) 0 journals

-- the whole looks of a watcher's round, from thread k on: thread and place of each
abbrev pub whole_looks_from : ℕ → List Look → List (ℕ × ℕ)
whole_looks_from k [] = []
whole_looks_from k (found.Whole number rec ∷ looks) = (k, number) ∷ whole_looks_from (k + 1) looks
whole_looks_from k (found.Busy first second ∷ looks) = whole_looks_from (k + 1) looks

-- and of all rounds, in order
abbrev pub whole_looks_of : List (List Look) → List (ℕ × ℕ)
whole_looks_of = flat_map (whole_looks_from 0)

-- their Watches
abbrev pub watch_events : List (ℕ × ℕ) → List Event
watch_events [] = []
watch_events (look ∷ looks) = Watch look.0 look.1 ∷ watch_events looks

-- all events: of the passes and the threads, and then the Watches
abbrev pub linear : List PassEntry → List (List Entry) → List (List Look) → List Event
linear history journals watched =
    passes_and_rests history journals ++ watch_events (whole_looks_of watched)
