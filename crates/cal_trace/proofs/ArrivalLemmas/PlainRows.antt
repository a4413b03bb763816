-- The rows of arrivals have plain fields, so that their text is read as these rows.
use Rattle.cal_trace.proofs.Common.{◌≡◌, ◌<◌, ◌≤◌, ℕ, List, [], ◌∷◌, length, map, codes, refl, arith, strip_bom, IsArrival, Fits, pass_fields, turn_fields, request_fields, row_count, arrivals_rows, arrivals_text, HasPassWords, AreSpelled, Each, IsWord, end_fields, rows_of, Arrival, Arrivals, GivenPass}
use Rattle.cal_trace.proofs.ArrivalLemmas.FewRequests.{count_word}
use Rattle.cal_trace.proofs.HistoryLemmas.PlainRows.{number, word}
use Rattle.cal_trace.proofs.ListLemmas.EachOne.{each_first, each_other}
use Rattle.cal_trace.proofs.RowLemmas.LinesRead.{ArePlainRows, plain_rows-append, text_read}

passes_plain : (passes : List GivenPass) → Each HasPassWords passes → ArePlainRows (map pass_fields passes)
passes_plain [] words = tt
passes_plain (pass ∷ passes) words =
    let own = each_first HasPassWords pass passes words in
    ((word 112 (codes "ass") (omega arith) refl, (number pass.now own.0, (number pass.bandwidth own.1, tt))), passes_plain passes (each_other HasPassWords pass passes words))

turns_plain : (turns : List ℕ) → Each IsWord turns → ArePlainRows (map turn_fields turns)
turns_plain [] words = tt
turns_plain (now ∷ turns) words =
    ((word 116 (codes "urn") (omega arith) refl, (number now (each_first IsWord now turns words), tt)), turns_plain turns (each_other IsWord now turns words))

abbrev pub HasId : Arrival → Type 0
HasId arrival = IsWord arrival.request.id

-- the numbers of a request that fits
pub record AreWords (arrival : Arrival) : Type 0 where
  pub thread : IsWord arrival.thread
  pub turn : IsWord arrival.turn
  pub work : IsWord arrival.request.work
  pub misses : IsWord arrival.request.misses

pub request_words : (threads turns : ℕ) (arrival : Arrival) → threads < 256 → turns ≤ 174762 → IsArrival threads turns arrival → AreWords arrival
request_words threads turns arrival few short is =
    let thread = is.thread in
    let turn = is.turn in
    let work = is.most_work in
    let misses = is.misses in
    record { thread = omega (arith, thread, few); turn = omega (arith, turn, short); work = omega (arith, work); misses = omega (arith, misses) }

requests_plain : (threads turns : ℕ) (requests : List Arrival) → threads < 256 → turns ≤ 174762 → Each (IsArrival threads turns) requests → Each HasId requests
    → ArePlainRows (map request_fields requests)
requests_plain threads turns [] few short each ids = tt
requests_plain threads turns (arrival ∷ requests) few short each ids =
    let w = request_words threads turns arrival few short (each_first (IsArrival threads turns) arrival requests each) in (
      (
        word 114 (codes "equest") (omega arith) refl,
        (
          number arrival.thread w.thread,
          (
            number arrival.turn w.turn,
            (
              number arrival.request.id (each_first HasId arrival requests ids),
              (number arrival.request.work w.work, (number arrival.request.misses w.misses, tt)),
            ),
          ),
        ),
      ),
      requests_plain threads turns requests few short (each_other (IsArrival threads turns) arrival requests each) (each_other HasId arrival requests ids),
    )

rows_plain : (threads : ℕ) (arrivals : Arrivals) → threads < 256 → Fits threads arrivals → AreSpelled arrivals → ArePlainRows (arrivals_rows arrivals)
rows_plain threads arrivals few fits words =
    let end : ArePlainRows (end_fields (row_count arrivals) ∷ []) =
    ((word 101 (codes "nd") (omega arith) refl, (number (row_count arrivals) (count_word threads arrivals few fits), tt)), tt) in
    let requests = plain_rows-append (map request_fields arrivals.requests) _ (requests_plain threads (length arrivals.turns) arrivals.requests few fits.few_turns fits.each words.ids) end in
    let turns = plain_rows-append (map turn_fields arrivals.turns) _ (turns_plain arrivals.turns words.turns) requests in
    ((word 99 (codes "aladan-arrivals") (omega arith) refl, (word 49 [] (omega arith) refl, tt)), plain_rows-append (map pass_fields arrivals.passes) _ (passes_plain arrivals.passes words.passes) turns)

-- the text begins with no byte order mark
no_mark : (arrivals : Arrivals) → strip_bom (arrivals_text arrivals) ≡ arrivals_text arrivals
unfolding strip_bom
no_mark arrivals = refl

-- the rows of the text of arrivals that fit are the rows that they were written as
pub rows_back : (threads : ℕ) (arrivals : Arrivals) → threads < 256 → Fits threads arrivals → AreSpelled arrivals → rows_of (arrivals_text arrivals) ≡ arrivals_rows arrivals
rows_back threads arrivals few fits words = text_read (arrivals_rows arrivals) (rows_plain threads arrivals few fits words) (no_mark arrivals)
