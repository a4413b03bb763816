-- The rows of a history in range have plain fields, so that its text is read as these rows.
use Rattle.cal_trace.proofs.Common.{◌≡◌, ◌<◌, ◌+◌, ℕ, List, [], ◌∷◌, length, map, codes, Bool, true, false, decimal, slice_index_or, refl, arith, flat_map, list_any, strip_bom, Record, Seen, Action, Free, Unban, Ban, Revoke, Cap, Grant, Cause, PassEntry, room_number, record_fields, look_fields, look_rows, revocation_fields, action_fields, entry_rows, end_fields, history_rows, history_text, Each, IsWord, AreWords, HasLookWords, HasActionWord, IsCauseInRange, IsActionInRange, IsEntryInRange, IsInRange, rows_of, numbered, WRITTEN, Extent}
use Rattle.csv.specs.Writing.{default_writer, needs_byte}
use Rattle.cal_signal.specs.Records.{words_of}
use Rattle.cal_policy.specs.declared.history.look.Seen.TheVariants as seen
use Rattle.cal_policy.specs.declared.history.action.Cause.TheVariants as causes
use Rattle.cal_trace.specs.Rows.Version.{version_word}
use Rattle.cal_trace.proofs.ListLemmas.EachOne.{each_first, each_other}
use Rattle.cal_trace.proofs.HistoryLemmas.Extents.{IsExtent, byte_word}
use Rattle.cal_trace.proofs.RowLemmas.LinesRead.{ArePlain, IsPlainRow, ArePlainRows, plain_rows-append, text_read}
use Rattle.cal_trace.proofs.RowLemmas.Spelled.{IsPlain, spelled}

pub number : (n : ℕ) → IsWord n → IsPlain (decimal n)
number n lt = (spelled n lt).plain

pub word : (front : ℕ) (more : List ℕ) → 44 < front → list_any (needs_byte default_writer) (front ∷ more) ≡ false → IsPlain (front ∷ more)
word front more above unmarked = record { front = front; more = more; is = refl; above = above; unmarked = unmarked }

pub room_word : (room : Bool) → IsWord (room_number room)
room_word true = omega arith
room_word false = omega arith

words_plain : (words : List ℕ) → Each IsWord words → ArePlain (map decimal words)
words_plain [] each = tt
words_plain (w ∷ words) each = (number w (each_first IsWord w words each), words_plain words (each_other IsWord w words each))

record_plain : (name : List ℕ) (thread : ℕ) (room : Bool) (place : ℕ) (rec : Record) → IsPlain name → IsWord thread → IsWord place → AreWords rec
    → IsPlainRow (record_fields name thread room place rec)
record_plain name thread room place rec plain is_thread is_place each =
    (plain, (number thread is_thread, (number (room_number room) (room_word room), (number place is_place, words_plain (words_of rec) each))))

look_plain : (thread : ℕ) (room : Bool) (look : Seen) → IsWord thread → HasLookWords look → IsPlainRow (look_fields thread room look)
look_plain thread room (seen.Whole place rec) is_thread w = record_plain (codes "whole") thread room place rec (word 119 (codes "hole") (omega arith) refl) is_thread w.0 w.1
look_plain thread room (seen.Ahead place rec) is_thread w = record_plain (codes "ahead") thread room place rec (word 97 (codes "head") (omega arith) refl) is_thread w.0 w.1
look_plain thread room (seen.Foreign place rec) is_thread w = record_plain (codes "foreign") thread room place rec (word 102 (codes "oreign") (omega arith) refl) is_thread w.0 w.1
look_plain thread room (seen.Busy opening closing) is_thread w =
    (word 98 (codes "usy") (omega arith) refl, (number thread is_thread, (number (room_number room) (room_word room), (number opening w.0, (number closing w.1, tt)))))

looks_plain : (rooms : List Bool) (k : ℕ) (looks : List Seen) → k + length looks < 256 → Each HasLookWords looks
    → ArePlainRows (numbered (λ k look. look_fields k (slice_index_or rooms k false) look) k looks)
looks_plain rooms k [] lt w = tt
looks_plain rooms k (look ∷ looks) lt w = (
  look_plain k (slice_index_or rooms k false) look (byte_word k (omega arith)) (each_first HasLookWords look looks w),
  looks_plain rooms (k + 1) looks (omega arith) (each_other HasLookWords look looks w),
)

revocation_plain : (extent : Extent) (core : ℕ) (cause : Cause) → IsExtent extent → core < extent.cores → IsCauseInRange extent cause → IsPlainRow (revocation_fields core cause)
revocation_plain extent core (causes.Ban by) few is_core is_by =
    let c = few.few_cores in
    (word 114 (codes "evoke") (omega arith) refl, (number core (byte_word core (omega arith)), (word 98 (codes "an") (omega arith) refl, (number by (byte_word by (omega arith)), tt))))
revocation_plain extent core causes.Bandwidth few is_core is_cause =
    let c = few.few_cores in
    (word 114 (codes "evoke") (omega arith) refl, (number core (byte_word core (omega arith)), (word 98 (codes "andwidth") (omega arith) refl, tt)))
revocation_plain extent core (causes.Preempt task) few is_core is_task =
    let c = few.few_cores in
    let t = few.few_tasks in
    (word 114 (codes "evoke") (omega arith) refl, (number core (byte_word core (omega arith)), (word 112 (codes "reempt") (omega arith) refl, (number task (byte_word task (omega arith)), tt))))

action_plain : (extent : Extent) (action : Action) → IsExtent extent → HasActionWord action → IsActionInRange extent action → IsPlainRow (action_fields action)
action_plain extent (Free core) few w r =
    let c = few.few_cores in
    (word 102 (codes "ree") (omega arith) refl, (number core (byte_word core (omega arith)), tt))
action_plain extent (Unban core) few w r =
    let c = few.few_cores in
    (word 117 (codes "nban") (omega arith) refl, (number core (byte_word core (omega arith)), tt))
action_plain extent (Ban core thread started) few w r =
    let c = few.few_cores in
    let k = few.few_threads in
    let is_core = r.0 in
    let is_thread = r.1 in
    (word 98 (codes "an") (omega arith) refl, (number core (byte_word core (omega arith)), (number thread (byte_word thread (omega arith)), (number started w, tt))))
action_plain extent (Revoke core cause) few w r = revocation_plain extent core cause few r.0 r.1
action_plain extent (Cap task cap) few w r =
    let t = few.few_tasks in
    let is_task = r.0 in
    let is_cap = r.1 in
    (word 99 (codes "ap") (omega arith) refl, (number task (byte_word task (omega arith)), (number cap (byte_word cap (omega arith)), tt)))
action_plain extent (Grant core thread class) few w r =
    let c = few.few_cores in
    let k = few.few_threads in
    let is_core = r.0 in
    let is_thread = r.1 in
    let is_class = r.3 in
    (word 103 (codes "rant") (omega arith) refl, (number core (byte_word core (omega arith)), (number thread (byte_word thread (omega arith)), (number class (byte_word class (omega arith)), tt))))

actions_plain : (extent : Extent) (actions : List Action) → IsExtent extent → Each HasActionWord actions → Each (IsActionInRange extent) actions → ArePlainRows (map action_fields actions)
actions_plain extent [] few w r = tt
actions_plain extent (action ∷ actions) few w r = (
  action_plain extent action few (each_first HasActionWord action actions w) (each_first (IsActionInRange extent) action actions r),
  actions_plain extent actions few (each_other HasActionWord action actions w) (each_other (IsActionInRange extent) action actions r),
)

entry_plain : (extent : Extent) (entry : PassEntry) → IsExtent extent → IsEntryInRange extent entry → ArePlainRows (entry_rows entry)
entry_plain extent entry few r =
    let k = few.few_threads in
    let same = r.looks in (
      (word 112 (codes "ass") (omega arith) refl, (number entry.input.now r.words.now, (number entry.input.bandwidth r.words.bandwidth, tt))),
      plain_rows-append (look_rows entry.input.rooms entry.input.seen) (map action_fields entry.actions)
          (looks_plain entry.input.rooms 0 entry.input.seen (omega arith) r.words.looks) (actions_plain extent entry.actions few r.words.starts r.actions),
    )

entries_plain : (extent : Extent) (history : List PassEntry) → IsExtent extent → Each (IsEntryInRange extent) history → ArePlainRows (flat_map entry_rows history)
entries_plain extent [] few r = tt
entries_plain extent (entry ∷ history) few r =
    plain_rows-append (entry_rows entry) (flat_map entry_rows history) (entry_plain extent entry few (each_first (IsEntryInRange extent) entry history r))
    (entries_plain extent history few (each_other (IsEntryInRange extent) entry history r))

version_plain : IsPlain (version_word WRITTEN)
version_plain = word _ _ (omega arith) refl

rows_plain : (extent : Extent) (history : List PassEntry) → IsExtent extent → IsInRange extent history → ArePlainRows (history_rows history)
rows_plain extent history few r =
    let most = r.passes in (
      (word 99 (codes "aladan-history") (omega arith) refl, (version_plain, tt)),
      plain_rows-append (flat_map entry_rows history) (end_fields (length history) ∷ []) (entries_plain extent history few r.each)
          ((word 101 (codes "nd") (omega arith) refl, (number (length history) (omega arith), tt)), tt),
    )

-- the text begins with no byte order mark
no_mark : (history : List PassEntry) → strip_bom (history_text history) ≡ history_text history
unfolding strip_bom
no_mark history = refl

-- the rows of the text of a history in range are the rows that it was written as
pub rows_back : (extent : Extent) (history : List PassEntry) → IsExtent extent → IsInRange extent history → rows_of (history_text history) ≡ history_rows history
rows_back extent history few r = text_read (history_rows history) (rows_plain extent history few r) (no_mark history)
