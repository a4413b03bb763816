-- The rows of the text of arrivals, each taken for what it was written of.
use Rattle.cal_trace.proofs.Common.{◌≡◌, ◌<◌, ◌≤◌, ◌==◌, ◌∙◌, ℕ, List, [], ◌∷◌, ◌++◌, length, codes, true, false, Option, Some, Ok, nat_lt, nat_le, unwrap_or, refl, ap, lt-ltb, le-leb, eq-eqb, field_at, form_of, take_form, take_row, last_in, turn_row, comes_after, is_given, arrival_row, add_turn, add_arrival, rows_in, IsArrival, pass_fields, turn_fields, request_fields, HasPassWords, IsWord, end_fields, Arrival, GivenPass, MOST_TURNS, MOST_WORK, MOST_REQUEST_MISSES, MOST_PASSES}
use Rattle.cal_trace.specs.Arrivals.{SoFar}
use Rattle.cal_trace.specs.declared.arrivals.reading.Form.TheVariants as form
use Rattle.cal_trace.proofs.ArrivalLemmas.PlainRows.{request_words}
use Rattle.cal_trace.proofs.RowLemmas.Spelled.{IsSpelled, spelled}

-- these passes, turns and requests so far
abbrev pub given : List GivenPass → List ℕ → List Arrival → SoFar
given passes turns requests = record { passes = passes; turns = turns; requests = requests; ended = false }

-- these, and the end
abbrev pub all_given : List GivenPass → List ℕ → List Arrival → SoFar
all_given passes turns requests = record { passes = passes; turns = turns; requests = requests; ended = true }

-- a pass row
pass_read : (threads : ℕ) (passes : List GivenPass) (now bandwidth : ℕ) (a b : List ℕ) → nat_lt (length passes) MOST_PASSES ≡ true → IsSpelled now a → IsSpelled bandwidth b
    → take_row threads (given passes [] []) (codes "pass" ∷ a ∷ b ∷ []) ≡ Ok (given (passes ++ (record { now = now; bandwidth = bandwidth }) ∷ []) [] [])
unfolding field_at
pass_read threads passes now bandwidth a b few is_now is_bandwidth = rw (few, is_now.number, is_bandwidth.number) refl

pub pass_taken : (threads : ℕ) (passes : List GivenPass) (pass : GivenPass) → length passes < MOST_PASSES → HasPassWords pass
    → take_row threads (given passes [] []) (pass_fields pass) ≡ Ok (given (passes ++ pass ∷ []) [] [])
pass_taken threads passes pass few words = pass_read threads passes pass.now pass.bandwidth _ _ (lt-ltb (length passes) MOST_PASSES few) (spelled pass.now words.0) (spelled pass.bandwidth words.1)

-- a turn row
turn_form : (a : List ℕ) → form_of (codes "turn" ∷ a ∷ []) ≡ Some form.Turn
unfolding field_at
turn_form a = refl

turn_read : (turns : List ℕ) (now : ℕ) (a : List ℕ) → IsSpelled now a → nat_lt (length turns) MOST_TURNS ≡ true → nat_le 1 now ≡ true
    → nat_le (unwrap_or (last_in turns) 0) now ≡ true → turn_row turns (codes "turn" ∷ a ∷ []) ≡ Ok now
unfolding field_at
turn_read turns now a is_now few least after = rw (is_now.number, few, least, after) refl

pub turn_taken : (threads : ℕ) (passes : List GivenPass) (turns : List ℕ) (now : ℕ) → IsWord now → length turns < MOST_TURNS → 1 ≤ now → unwrap_or (last_in turns) 0 ≤ now
    → take_row threads (given passes turns []) (turn_fields now) ≡ Ok (given passes (turns ++ now ∷ []) [])
turn_taken threads passes turns now is_word few least after =
    let s = spelled now is_word in
    ap (λ f. take_form threads (given passes turns []) f (turn_fields now)) (turn_form _)
    ∙ ap (add_turn (given passes turns [])) (turn_read turns now _ s (lt-ltb (length turns) MOST_TURNS few) (le-leb 1 now least) (le-leb (unwrap_or (last_in turns) 0) now after))

-- a request row
request_form : (a b c d e : List ℕ) → form_of (codes "request" ∷ a ∷ b ∷ c ∷ d ∷ e ∷ []) ≡ Some form.Arrival
unfolding field_at
request_form a b c d e = refl

-- the fields of a request
record AreFields (arrival : Arrival) (a b c d e : List ℕ) : Type 0 where
  pub thread : IsSpelled arrival.thread a
  pub turn : IsSpelled arrival.turn b
  pub id : IsSpelled arrival.request.id c
  pub work : IsSpelled arrival.request.work d
  pub misses : IsSpelled arrival.request.misses e

-- the checks of a request
record AreChecked (threads turns : ℕ) (last : Option Arrival) (arrival : Arrival) : Type 0 where
  pub after : comes_after last arrival.thread arrival.turn ≡ true
  pub thread : nat_lt arrival.thread threads ≡ true
  pub turn : nat_lt arrival.turn turns ≡ true
  pub some_work : nat_le 1 arrival.request.work ≡ true
  pub most_work : nat_le arrival.request.work MOST_WORK ≡ true
  pub misses : nat_le arrival.request.misses MOST_REQUEST_MISSES ≡ true

request_read : (threads turns : ℕ) (last : Option Arrival) (arrival : Arrival) (a b c d e : List ℕ) → AreFields arrival a b c d e → AreChecked threads turns last arrival
    → arrival_row threads turns last (codes "request" ∷ a ∷ b ∷ c ∷ d ∷ e ∷ []) ≡ Ok arrival
unfolding field_at
request_read threads turns last arrival a b c d e is ok =
    rw (is.thread.number, is.turn.number, is.id.number, is.work.number, is.misses.number, ok.after, ok.thread, ok.turn, ok.some_work, ok.most_work, ok.misses) refl

fresh : (so_far : SoFar) (arrival : Arrival) → is_given arrival.request.id so_far.requests ≡ false
    → add_arrival so_far (Ok arrival) ≡ Ok (record so_far { requests = so_far.requests ++ arrival ∷ [] })
fresh so_far arrival new = rw new refl

pub request_taken : (threads : ℕ) (passes : List GivenPass) (turns : List ℕ) (requests : List Arrival) (arrival : Arrival) → threads < 256 → length turns ≤ 174762
    → IsArrival threads (length turns) arrival → IsWord arrival.request.id → comes_after (last_in requests) arrival.thread arrival.turn ≡ true
    → is_given arrival.request.id requests ≡ false
    → take_row threads (given passes turns requests) (request_fields arrival) ≡ Ok (given passes turns (requests ++ arrival ∷ []))
request_taken threads passes turns requests arrival few short is is_id after new =
    let w = request_words threads (length turns) arrival few short is in
    let fields : AreFields arrival _ _ _ _ _ = record {
      thread = spelled arrival.thread w.thread;
      turn = spelled arrival.turn w.turn;
      id = spelled arrival.request.id is_id;
      work = spelled arrival.request.work w.work;
      misses = spelled arrival.request.misses w.misses;
    } in
    let checked : AreChecked threads (length turns) (last_in requests) arrival = record {
      after = after;
      thread = lt-ltb arrival.thread threads is.thread;
      turn = lt-ltb arrival.turn (length turns) is.turn;
      some_work = le-leb 1 arrival.request.work is.some_work;
      most_work = le-leb arrival.request.work MOST_WORK is.most_work;
      misses = le-leb arrival.request.misses MOST_REQUEST_MISSES is.misses;
    } in
    ap (λ f. take_form threads (given passes turns requests) f (request_fields arrival)) (request_form _ _ _ _ _)
    ∙ ap (add_arrival (given passes turns requests)) (request_read threads (length turns) (last_in requests) arrival _ _ _ _ _ fields checked)
    ∙ fresh (given passes turns requests) arrival new

-- the end row
end_read : (threads : ℕ) (passes : List GivenPass) (turns : List ℕ) (requests : List Arrival) (count : ℕ) (a : List ℕ) → IsSpelled count a
    → (count == rows_in (given passes turns requests)) ≡ true
    → take_row threads (given passes turns requests) (codes "end" ∷ a ∷ []) ≡ Ok (all_given passes turns requests)
unfolding field_at
end_read threads passes turns requests count a is_count same = rw (is_count.number, same) refl

pub end_taken : (threads : ℕ) (passes : List GivenPass) (turns : List ℕ) (requests : List Arrival) (count : ℕ) → IsWord count → count ≡ rows_in (given passes turns requests)
    → take_row threads (given passes turns requests) (end_fields count) ≡ Ok (all_given passes turns requests)
end_taken threads passes turns requests count is_word same = end_read threads passes turns requests count _ (spelled count is_word) (eq-eqb count (rows_in (given passes turns requests)) same)
