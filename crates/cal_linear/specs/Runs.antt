-- When a history, journals and watched rounds are those of one run. What names no policy is by
-- Policy::Caladan.
use Rattle.std.specs.Prelude.{◌≡◌, ℕ, List, length, take, Some, slice_get}
use Rattle.cal_machine.specs.Table.{Table}
use Rattle.cal_signal.specs.declared.record.Record.{Record}
use Rattle.cal_signal.specs.declared.look.Look.{Look}
use Rattle.cal_signal.specs.Pages.{page_of, FitsPage}
use Rattle.cal_signal.specs.Rounds.{found_at}
use Rattle.cal_policy.specs.declared.history.look.Seen.{Seen}
use Rattle.cal_policy.specs.declared.history.look.Seen.TheVariants.{Whole}
use Rattle.cal_policy.specs.declared.history.entry.PassEntry.{PassEntry}
use Rattle.cal_machine.specs.TableTasks.{threads_of_table}
use Rattle.cal_policy.specs.History.{actions_of, commands_to}
use Rattle.cal_policy.specs.declared.policy.Policy.{Policy}
use Rattle.cal_policy.specs.declared.policy.Policy.TheVariants.{Caladan}
use Rattle.cal_policy.specs.Policies.{IsLegalBy}
use Rattle.cal_kthread.specs.declared.journal.entry.Entry.{Entry}
use Rattle.cal_kthread.specs.Journal.{IsJournal, records_of, commands_of}
use Rattle.cal_linear.specs.Steps.{journal_at}

-- the page of thread k: place 0 has the zero record, the others those that it published
abbrev pub page_at : List (List Entry) → ℕ → List Record
page_at journals k = page_of (records_of (journal_at journals k))

-- the record stands at this place of thread k's page
abbrev pub IsPublication : List (List Entry) → ℕ → ℕ → Record → Type 0
IsPublication journals k number rec = slice_get (page_at journals k) number ≡ Some rec

-- the whole looks at thread k read publications of its
abbrev pub ArePublications : List (List Entry) → List Seen → Type 0
ArePublications journals seen =
    (k number : ℕ) (rec : Record) → slice_get seen k ≡ Some (Whole number rec) →
    IsPublication journals k number rec

-- these commands are the first ones of those
abbrev pub AreFirst : {X : Type 0} → List X → List X → Type 0
AreFirst taken sent = taken ≡ take (length taken) sent

-- The history is legal, and each of the table's threads kept a journal. Each whole look of a pass
-- is its thread's publication of that place, and the commands that a thread took are the first of
-- those sent to it.
pub record AreOfOneRunBy (policy : Policy) (table : Table) (history : List PassEntry)
    (journals : List (List Entry)) : Type 0 where
  pub legal : IsLegalBy policy table history
  pub count : length journals ≡ threads_of_table table
  pub kept : (k : ℕ) → IsJournal (journal_at journals k)
  pub looks : (p : ℕ) (entry : PassEntry) → slice_get history p ≡ Some entry →
      ArePublications journals entry.input.seen
  pub first : (k : ℕ) → AreFirst (commands_of (journal_at journals k))
      (commands_to (actions_of history) k)

abbrev pub AreOfOneRun : Table → List PassEntry → List (List Entry) → Type 0
AreOfOneRun table history journals = AreOfOneRunBy Caladan table history journals

-- Each round has a look at each thread. What the rounds found of a thread fits its page: each whole
-- look is its publication of that place, and places do not fall.
pub record AreWatched (table : Table) (journals : List (List Entry))
    (watched : List (List Look)) : Type 0 where
  pub rounds : (r : ℕ) (round : List Look) → slice_get watched r ≡ Some round →
      length round ≡ threads_of_table table
  pub fit : (k : ℕ) → FitsPage (page_at journals k) (found_at watched k)
