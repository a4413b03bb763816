-- What is kept and was last shown of each thread, and which threads are in the sets beside that.
use Rattle.std.specs.Prelude.{◌≡◌, ℕ, ◌<◌, ◌||◌, Bool, false, nat_lt, List, Some}
use Rattle.std.specs.Prelude.{slice_get, slice_index, slice_index_or, if◌then◌else◌}
use Rattle.cal_machine.specs.declared.numbering.TheConstants.{MOST_THREADS}
use Rattle.cal_signal.specs.declared.record.Record.{Record}
use Rattle.cal_signal.specs.declared.shown.Shown.{Shown}
use Rattle.cal_signal.specs.Records.{zero_record}
use Rattle.cal_policy.specs.declared.board.records.Keeping.{Keeping}
use Rattle.cal_policy.specs.declared.history.look.Seen.{Seen}
use Rattle.cal_policy.specs.History.Looks.{last_shown}
use Rattle.cal_policy.specs.Judgement.Judging.{IsFitLook}
use Rattle.cal_machine.specs.ThreadSet.{has_thread}

-- the kept record of thread k
abbrev pub kept_in : Keeping → ℕ → Record
kept_in r k = slice_index_or r.kept k zero_record

-- what was last shown of thread k: its place, and the kept record where that is the one
abbrev pub shown_in : Keeping → ℕ → Shown
shown_in r k = record {
  number = slice_index_or r.numbers k 0;
  rec = if slice_index_or r.settled k false then kept_in r k
      else slice_index_or r.unkept k zero_record;
}

-- a record shows a request that waits, queued or suspended
abbrev pub shows_waiting : Record → Bool
shows_waiting rec = nat_lt 0 rec.queued || nat_lt 0 rec.paused

-- of each thread that has not moved the misses before are those of its kept record, and the threads
-- that wait are those whose kept record shows it
pub record KeepsSets (r : Keeping) : Type 0 where
  pub still : (k : ℕ) → k < MOST_THREADS → has_thread r.moved k ≡ false →
      slice_index r.before k ≡ (kept_in r k).misses
  pub waiting : (k : ℕ) → k < MOST_THREADS → has_thread r.waiting k ≡ shows_waiting (kept_in r k)

-- each look fits what was last shown of its thread
abbrev pub FitShown : Keeping → List Seen → Type 0
FitShown r seen = (k : ℕ) (look : Seen) → slice_get seen k ≡ Some look →
    IsFitLook (shown_in r k) look

-- each look fits what these looks showed last of its thread
abbrev pub FitAfter : List (List Seen) → List Seen → Type 0
FitAfter looks seen = (k : ℕ) (look : Seen) → slice_get seen k ≡ Some look →
    IsFitLook (last_shown looks k) look
