-- How far each thread's journal is listed.
use Rattle.std.specs.Prelude.{◌≡◌, ◌≤◌, ℕ, List, length, Some, slice_get, slice_index_or}
use Rattle.cal_policy.specs.declared.history.entry.PassEntry.{PassEntry}
use Rattle.cal_kthread.specs.declared.journal.entry.Entry.{Entry}
use Rattle.cal_linear.specs.declared.front.Front.{Front}
use Rattle.cal_kthread.specs.Journal.Entries.{up_to}
use Rattle.cal_linear.specs.Steps.{journal_at}

-- nothing of it
abbrev pub no_front : Front
no_front = record { place = 0; entries = 0 }

-- how far that of thread k is
abbrev pub front_at : List Front → ℕ → Front
front_at fronts k = slice_index_or fronts k no_front

-- it is listed up to the publication of the place, which are so many entries
pub record IsFront (journal : List Entry) (front : Front) : Type 0 where
  pub count : front.entries ≡ length (up_to front.place journal)
  pub within : front.entries ≤ length journal

-- so is each journal
abbrev pub AreFronts : List (List Entry) → List Front → Type 0
AreFronts journals fronts = (k : ℕ) → IsFront (journal_at journals k) (front_at fronts k)

-- up to this place that of thread k
abbrev pub places_in : List Front → ℕ → ℕ
places_in fronts k = (front_at fronts k).place

-- each pass has at most so many looks
abbrev pub HaveAtMost : ℕ → List PassEntry → Type 0
HaveAtMost n history =
    (p : ℕ) (entry : PassEntry) → slice_get history p ≡ Some entry → length entry.input.seen ≤ n
