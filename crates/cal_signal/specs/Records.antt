-- Which records there may be, which may follow which, and the words that a record is kept as.
use Rattle.std.specs.Prelude.{◌≡◌, ℕ, ◌+◌, ◌≤◌, ◌==◌, ◌&&◌, Bool, List, [], ◌∷◌, length}
use Rattle.std.specs.Prelude.{slice_index, refl}
use Rattle.std.specs.Prelude.{Option, Some, None}
use Rattle.cal_machine.specs.declared.machine.TheConstants.{MOST_CORES}
use Rattle.cal_signal.specs.declared.record.Record.{Record}
use Rattle.cal_signal.specs.declared.record.TheConstants.{MOST_MISSES, WORDS}

-- b may stand after a: none of these three words falls
abbrev pub IsLater : Record → Record → Type 0
IsLater a b = (a.taken ≤ b.taken) × (a.misses ≤ b.misses) × (a.stamp ≤ b.stamp)

-- running names no core above the last that a machine has, and the misses of all threads of a task
-- have a sum
abbrev pub IsShaped : Record → Type 0
IsShaped a = (a.running ≤ MOST_CORES) × (a.misses ≤ MOST_MISSES)

-- the word that shows a thread on a core, or on none
abbrev pub running_word : Option ℕ → ℕ
running_word None = 0
running_word (Some core) = core + 1

-- the record shows its thread on core c
abbrev pub shows_on : Record → ℕ → Bool
shows_on rec c = rec.running == c + 1

-- b may stand on a page just after a
abbrev pub MayFollow : Record → Record → Type 0
MayFollow a b = IsLater a b × IsShaped b

-- the record at place 0 of every page: all words 0
abbrev pub zero_record : Record
zero_record = record {
  taken = 0;
  running = 0;
  queued = 0;
  oldest = 0;
  started = 0;
  misses = 0;
  stamp = 0;
  paused = 0;
  since = 0;
}

-- the records are the same in all their words, as a test
abbrev pub is_same : Record → Record → Bool
is_same a b =
    (a.taken == b.taken) && (a.running == b.running) && (a.queued == b.queued)
    && (a.oldest == b.oldest)
    && (a.started == b.started) && (a.misses == b.misses) && (a.stamp == b.stamp)
    && (a.paused == b.paused) && (a.since == b.since)

-- its words, in order
abbrev pub words_of : Record → List ℕ
words_of a =
    a.taken ∷ a.running ∷ a.queued ∷ a.oldest ∷ a.started ∷ a.misses ∷ a.stamp ∷ a.paused
    ∷ a.since ∷ []

-- there are so many of them
pub words-are : (a : Record) → length (words_of a) ≡ WORDS
words-are a = refl

-- the record that these words make
abbrev pub record_of : List ℕ → Record
record_of ws = record {
  taken = slice_index ws 0;
  running = slice_index ws 1;
  queued = slice_index ws 2;
  oldest = slice_index ws 3;
  started = slice_index ws 4;
  misses = slice_index ws 5;
  stamp = slice_index ws 6;
  paused = slice_index ws 7;
  since = slice_index ws 8;
}
