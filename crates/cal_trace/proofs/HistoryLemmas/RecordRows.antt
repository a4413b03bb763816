-- The row of a record: its words are read as they were written.
use Rattle.cal_trace.proofs.Common.{◌≡◌, ◌<◌, ◌+◌, ◌==◌, ◌&&◌, ◌∙◌, ℕ, zero, suc, List, [], ◌∷◌, length, map, codes, Bool, true, false, Ok, Result, decimal, nat_lt, get_or, option_and_then, unwrap_or, refl, sym, ap, ap₂, arith, eq-eqb, same_number_lists, field_at, is_shaped, is_busy_pair, Look, Record, WORDS, Each, IsWord, AreWords, room_number, record_fields, check, is_possible, look_of, look_row, spelled_number, number_at, has_numbers, all_numbers, shown_words, record_of, Fields, FaultKind, LookForm, FoundLook}
use Rattle.std.proofs.lemmas.List.FromFn.{length-map-range_with_len, get_or-map-range_with_len}
use Rattle.cal_signal.specs.Records as records
use Rattle.cal_signal.specs.Records.{words_of, words-are}
use Rattle.cal_signal.specs.declared.look.Look.TheVariants as looks
use Rattle.cal_trace.specs.declared.fault.FaultKind.TheVariants as kind
use Rattle.cal_trace.specs.declared.rows.look_rows.LookForm.TheVariants as form
use Rattle.cal_trace.proofs.HistoryLemmas.PlainRows.{room_word}
use Rattle.cal_trace.proofs.ListLemmas.EachOne.{each_first, each_other}
use Rattle.cal_trace.proofs.RowLemmas.Checks.{good}
use Rattle.cal_trace.proofs.RowLemmas.Spelled.{IsSpelled, spelled}

-- whether a ring has room, by its number
room_small : (room : Bool) → nat_lt (room_number room) 2 ≡ true
room_small true = refl
room_small false = refl

room_same : (room : Bool) → (room_number room == 1) ≡ room
room_same true = refl
room_same false = refl

-- the fields after the fourth
past_four : (a b c d : List ℕ) (fields : Fields) (k : ℕ) → field_at (a ∷ b ∷ c ∷ d ∷ fields) (4 + k) ≡ field_at fields k
unfolding field_at
past_four a b c d fields k = let e : 4 + k ≡ suc (suc (suc (suc k))) = omega arith in rw e refl

-- each word is the number at its place
word_read : (words : List ℕ) (k : ℕ) → Each IsWord words → k < length words → number_at (map decimal words) k ≡ get_or words k 0
unfolding field_at
word_read [] k each lt = absurd (omega arith)
word_read (word ∷ words) zero each lt = let s = spelled word (each_first IsWord word words each) in rw s.number refl
word_read (word ∷ words) (suc k) each lt = word_read words k (each_other IsWord word words each) (omega arith)

words_read : (a b c d : List ℕ) (words : List ℕ) → Each IsWord words → length words ≡ WORDS → shown_words (a ∷ b ∷ c ∷ d ∷ map decimal words) ≡ words
words_read a b c d words each long =
    let fields = a ∷ b ∷ c ∷ d ∷ map decimal words in
    same_number_lists (shown_words fields) words (length-map-range_with_len (number_at fields) 4 WORDS ∙ sym long)
    (λ k lt. let below : k < WORDS = omega (arith, length-map-range_with_len (number_at fields) 4 WORDS) in
    get_or-map-range_with_len (number_at fields) 4 WORDS k (4 + k) 0 below refl
    ∙ ap (λ o. unwrap_or (option_and_then spelled_number o) 0) (past_four a b c d (map decimal words) k)
    ∙ word_read words k each (omega (arith, long)))

all_read : (words : List ℕ) → Each IsWord words → all_numbers (map decimal words) ≡ true
all_read [] each = refl
all_read (word ∷ words) each = let s = spelled word (each_first IsWord word words each) in rw s.number (all_read words (each_other IsWord word words each))

-- a look, and whether its thread's ring had room
abbrev pub look_found : Look → Bool → FoundLook
look_found look room = record { look = look; room = room }

-- a look row, where its fields make this look
abbrev look_by : ℕ → Fields → Look → Result FoundLook FaultKind
look_by thread fields look =
    check (has_numbers fields) kind.Number (check (number_at fields 1 == thread) kind.Order (check (nat_lt (number_at fields 2) 2 && is_possible look) kind.Range
    (Ok (look_found look (number_at fields 2 == 1)))))

look_value : (thread room : ℕ) (look : Look) (name t r : List ℕ) (rest : Fields) → IsSpelled thread t → IsSpelled room r → all_numbers rest ≡ true
    → (thread == thread) ≡ true → nat_lt room 2 ≡ true → is_possible look ≡ true → look_by thread (name ∷ t ∷ r ∷ rest) look ≡ Ok (look_found look (room == 1))
unfolding field_at
look_value thread room look name t r rest is_t is_r all own small possible = rw (is_t.number, is_r.number, all, own, small, possible) refl

look_read : (form : LookForm) (thread : ℕ) (room : Bool) (look : Look) (name : List ℕ) (rest : Fields) → IsWord thread → all_numbers rest ≡ true
    → look_of form (name ∷ decimal thread ∷ decimal (room_number room) ∷ rest) ≡ look → is_possible look ≡ true
    → look_row form thread (name ∷ decimal thread ∷ decimal (room_number room) ∷ rest) ≡ Ok (look_found look room)
look_read form thread room look name rest is_thread all same possible =
    ap (look_by thread (name ∷ decimal thread ∷ decimal (room_number room) ∷ rest)) same
    ∙ look_value thread (room_number room) look name _ _ rest (spelled thread is_thread) (spelled (room_number room) (room_word room)) all (eq-eqb thread thread refl) (room_small room) possible
    ∙ ap (λ (b : Bool). good (look_found look b)) (room_same room)

-- the row of a look that found a record, and of one that found none
first_all : (n : ℕ) (p : List ℕ) (rest : Fields) → IsSpelled n p → all_numbers rest ≡ true → all_numbers (p ∷ rest) ≡ true
first_all n p rest is_n all = rw is_n.number all

fourth : (place : ℕ) (name t r p : List ℕ) (rest : Fields) → IsSpelled place p → number_at (name ∷ t ∷ r ∷ p ∷ rest) 3 ≡ place
unfolding field_at
fourth place name t r p rest is_p = rw is_p.number refl

same_busy : (first second : ℕ) (name t r a b : List ℕ) → IsSpelled first a → IsSpelled second b → look_of form.Busy (name ∷ t ∷ r ∷ a ∷ b ∷ []) ≡ looks.Busy first second
unfolding field_at
same_busy first second name t r a b is_a is_b = rw (is_a.number, is_b.number) refl

pub record_read : (form : LookForm) → ((fields : Fields) → look_of form fields ≡ looks.Whole (number_at fields 3) (record_of fields)) → (name : List ℕ) (thread : ℕ) (room : Bool) (place : ℕ) (rec : Record) → IsWord thread → IsWord place → AreWords rec → is_shaped rec ≡ true
    → look_row form thread (record_fields name thread room place rec) ≡ Ok (look_found (looks.Whole place rec) room)
record_read form is_whole name thread room place rec is_thread is_place each shaped =
    let is_p = spelled place is_place in
    let words = map decimal (words_of rec) in
    let same : record_of (record_fields name thread room place rec) ≡ rec = ap records.record_of (words_read name _ _ _ (words_of rec) each (words-are rec)) in
    look_read form thread room (looks.Whole place rec) name (decimal place ∷ words) is_thread (first_all place (decimal place) words is_p (all_read (words_of rec) each))
    (is_whole (record_fields name thread room place rec) ∙ ap₂ looks.Whole (fourth place name (decimal thread) (decimal (room_number room)) (decimal place) words is_p) same) shaped

pub busy_read : (thread : ℕ) (room : Bool) (first second : ℕ) → IsWord thread → IsWord first → IsWord second → is_busy_pair first second ≡ true
    → look_row form.Busy thread (codes "busy" ∷ decimal thread ∷ decimal (room_number room) ∷ decimal first ∷ decimal second ∷ []) ≡ Ok (look_found (looks.Busy first second) room)
busy_read thread room first second is_thread is_first is_second pair =
    let is_a = spelled first is_first in
    let is_b = spelled second is_second in
    look_read form.Busy thread room (looks.Busy first second) (codes "busy") (decimal first ∷ decimal second ∷ []) is_thread
    (first_all first (decimal first) (decimal second ∷ []) is_a (first_all second (decimal second) [] is_b refl))
    (same_busy first second (codes "busy") (decimal thread) (decimal (room_number room)) (decimal first) (decimal second) is_a is_b) pair
