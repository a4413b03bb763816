-- Parts of a journal, and what a record shows of the entries before it.
use Rattle.std.specs.Prelude.{◌≡◌, ℕ, zero, suc, Bool, true, false}
use Rattle.std.specs.Prelude.{Some, List, [], ◌∷◌, length}
use Rattle.std.specs.List.{filter, slice_get}
use Rattle.cal_signal.specs.declared.record.Record.{Record}
use Rattle.cal_signal.specs.Pages.{last_published, page_of}
use Rattle.cal_kthread.specs.declared.journal.entry.Entry.{Entry}
use Rattle.cal_kthread.specs.declared.journal.entry.Entry.TheVariants.{Took, Yielded, Published}
use Rattle.cal_kthread.specs.Journal.{IsJournal, commands_of, records_of, state_after}

-- of n publications those that are still to come after this entry
abbrev pub still_after : Entry → ℕ → ℕ
still_after (Published number rec) n = n
still_after _ n = suc n

-- the entries up to the n-th publication, none for 0; and those after it
abbrev pub up_to : ℕ → List Entry → List Entry
up_to zero entries = []
up_to (suc n) [] = []
up_to (suc n) (entry ∷ entries) = entry ∷ up_to (still_after entry n) entries

abbrev pub past : ℕ → List Entry → List Entry
past zero entries = entries
past (suc n) [] = []
past (suc n) (entry ∷ entries) = past (still_after entry n) entries

-- an entry that changes the state or is a publication: a Took, a Yielded or a Published
abbrev pub is_step : Entry → Bool
is_step (Took number command) = true
is_step Yielded = true
is_step (Published number rec) = true
is_step _ = false

abbrev pub steps_of : List Entry → List Entry
steps_of = filter is_step

-- The law of what a record shows: the record at place n of the page has as `taken` how many
-- commands were taken up to the n-th publication; and of those entries it is the last record.
abbrev pub RecordShowsTaken : Type 0
RecordShowsTaken = (journal : List Entry) (n : ℕ) (rec : Record) → IsJournal journal →
    slice_get (page_of (records_of journal)) n ≡ Some rec
    → (rec.taken ≡ length (commands_of (up_to n journal)))
    × (rec ≡ last_published (records_of (up_to n journal)))

-- The law of other entries: arrivals, thefts and services change neither state nor records nor
-- commands.
abbrev pub OthersChangeNothing : Type 0
OthersChangeNothing = (journal : List Entry) →
    (state_after (steps_of journal) ≡ state_after journal)
    × (records_of (steps_of journal) ≡ records_of journal)
    × (commands_of (steps_of journal) ≡ commands_of journal)
