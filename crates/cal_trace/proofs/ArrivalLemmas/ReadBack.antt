-- The text of arrivals that fit is read as these arrivals.
use Rattle.cal_trace.proofs.Common.{◌≡◌, ◌<◌, ◌≤◌, ◌+◌, ◌-◌, ◌==◌, ◌||◌, inl, inr, ◌∙◌, ℕ, List, [], ◌∷◌, ◌++◌, length, map, codes, Bool, true, false, Option, Some, None, Ok, nat_lt, slice_get, unwrap_or, refl, sym, ap, subst, arith, append_assoc, length-append, lt-ltb, eq-eqb, ne_eqb, field_at, take_row, last_in, comes_after, is_given, arrivals_of, EachLater, IsArrival, ComesBefore, HaveTwoIds, Fits, header_row, pass_fields, turn_fields, request_fields, row_count, arrivals_text, HasPassWords, AreSpelled, Each, IsWord, end_fields, Fields, rows_of, header_of, in_version_one, read_from, read_under, Arrival, Arrivals, GivenPass, MOST_TURNS, MOST_PASSES}
use Rattle.std.proofs.Common.{append-nil}
use Rattle.cal_trace.specs.Arrivals.{SoFar, at_start, whole}
use Rattle.cal_trace.specs.declared.rows.version.Version.TheVariants as version
use Rattle.cal_trace.proofs.ArrivalLemmas.FewRequests.{count_word}
use Rattle.cal_trace.proofs.ArrivalLemmas.PlainRows.{HasId, rows_back}
use Rattle.cal_trace.proofs.ArrivalLemmas.RowsTaken.{given, all_given, pass_taken, turn_taken, request_taken, end_taken}
use Rattle.cal_trace.proofs.ListLemmas.EachLater.{later_first, later_other}
use Rattle.cal_trace.proofs.ListLemmas.EachOne.{each_first, each_other}
use Rattle.cal_trace.proofs.RowLemmas.Readings.{one_row, ends}

-- the last of a list is the one that was put at its end
slice_get-end : {X : Type 0} (xs : List X) (x : X) → slice_get (xs ++ x ∷ []) (length xs) ≡ Some x
slice_get-end [] x = refl
slice_get-end (y ∷ xs) x = slice_get-end xs x

last_in-end : {X : Type 0} (xs : List X) (x : X) → last_in (xs ++ x ∷ []) ≡ Some x
last_in-end xs x =
    let same : length (xs ++ x ∷ []) - 1 ≡ length xs = omega (arith, length-append xs (x ∷ [])) in
    ap (slice_get (xs ++ x ∷ [])) same ∙ slice_get-end xs x

-- these rows, after what the rows before have given, are read as these arrivals
record IsReadAs (threads : ℕ) (so_far : SoFar) (rows : List Fields) (arrivals : Arrivals) : Type 0 where
  pub from : (row : ℕ) → read_from (take_row threads) whole so_far row rows ≡ Ok arrivals

row_more : (threads : ℕ) (so_far next : SoFar) (fields : Fields) (rows : List Fields) (arrivals : Arrivals) → take_row threads so_far fields ≡ Ok next
    → IsReadAs threads next rows arrivals → IsReadAs threads so_far (fields ∷ rows) arrivals
row_more threads so_far next fields rows arrivals takes more = record {
  from = λ row. one_row (take_row threads) whole so_far row next fields rows takes ∙ more.from (row + 1);
}

-- the rows of passes
passes_more : (threads : ℕ) (before passes : List GivenPass) (rest : List Fields) (arrivals : Arrivals) → length before + length passes ≤ MOST_PASSES → Each HasPassWords passes
    → IsReadAs threads (given (before ++ passes) [] []) rest arrivals → IsReadAs threads (given before [] []) (map pass_fields passes ++ rest) arrivals
passes_more threads before [] rest arrivals few words more = subst (λ (all : List GivenPass). IsReadAs threads (given all [] []) rest arrivals) (append-nil before) more
passes_more threads before (pass ∷ passes) rest arrivals few words more =
    let later = subst (λ (all : List GivenPass). IsReadAs threads (given all [] []) rest arrivals) (sym (append_assoc before (pass ∷ []) passes)) more in
    let room : length (before ++ pass ∷ []) + length passes ≤ MOST_PASSES = omega (arith, few, length-append before (pass ∷ [])) in
    row_more threads (given before [] []) _ (pass_fields pass) _ arrivals (pass_taken threads before pass (omega (arith, few)) (each_first HasPassWords pass passes words))
    (passes_more threads (before ++ pass ∷ []) passes rest arrivals room (each_other HasPassWords pass passes words) later)

-- the rows of turns
turns_more : (threads : ℕ) (passes : List GivenPass) (before turns : List ℕ) (rest : List Fields) (arrivals : Arrivals) → length before + length turns ≤ MOST_TURNS → Each IsWord turns
    → Each (λ now. 1 ≤ now) turns → EachLater (λ now later. now ≤ later) turns → Each (λ now. unwrap_or (last_in before) 0 ≤ now) turns
    → IsReadAs threads (given passes (before ++ turns) []) rest arrivals → IsReadAs threads (given passes before []) (map turn_fields turns ++ rest) arrivals
turns_more threads passes before [] rest arrivals few words clocks rising after more =
    subst (λ (all : List ℕ). IsReadAs threads (given passes all []) rest arrivals) (append-nil before) more
turns_more threads passes before (now ∷ turns) rest arrivals few words clocks rising after more =
    let later = subst (λ (all : List ℕ). IsReadAs threads (given passes all []) rest arrivals) (sym (append_assoc before (now ∷ []) turns)) more in
    let room : length (before ++ now ∷ []) + length turns ≤ MOST_TURNS = omega (arith, few, length-append before (now ∷ [])) in
    let next = subst (λ (o : Option ℕ). Each (λ n. unwrap_or o 0 ≤ n) turns) (sym (last_in-end before now)) (later_first (λ now later. now ≤ later) now turns rising) in
    row_more threads (given passes before []) _ (turn_fields now) _ arrivals
    (turn_taken threads passes before now (each_first IsWord now turns words) (omega (arith, few)) (each_first (λ now. 1 ≤ now) now turns clocks)
    (each_first (λ n. unwrap_or (last_in before) 0 ≤ n) now turns after))
    (turns_more threads passes (before ++ now ∷ []) turns rest arrivals room (each_other IsWord now turns words) (each_other (λ now. 1 ≤ now) now turns clocks)
    (later_other (λ now later. now ≤ later) now turns rising) next later)

-- a request comes after the last one
abbrev ComesAfter : Option Arrival → Arrival → Type 0
ComesAfter last arrival = (other : Arrival) → last ≡ Some other → ComesBefore other arrival

or_right : (a b : Bool) → b ≡ true → (a || b) ≡ true
or_right true b h = refl
or_right false b h = h

test_after : (last arrival : Arrival) → ComesBefore last arrival → comes_after (Some last) arrival.thread arrival.turn ≡ true
test_after last arrival (inl before) = rw (lt-ltb last.thread arrival.thread before) refl
test_after last arrival (inr same) =
    or_right (nat_lt last.thread arrival.thread) _ (rw (eq-eqb last.thread arrival.thread same.0, lt-ltb last.turn arrival.turn same.1) refl)

is_after : (last : Option Arrival) (arrival : Arrival) → ComesAfter last arrival → comes_after last arrival.thread arrival.turn ≡ true
is_after None arrival h = refl
is_after (Some last) arrival h = test_after last arrival (h last refl)

-- a request of an id that is not given yet, and one more request
neither : (a b : Bool) → a ≡ false → b ≡ false → (a || b) ≡ false
neither a b h k = rw (h, k) refl

parted : (a b : Bool) → (a || b) ≡ false → (a ≡ false) × (b ≡ false)
parted true b h = cc
parted false b h = (refl, h)

new_more : (requests : List Arrival) (arrival later : Arrival) → HaveTwoIds arrival later → is_given later.request.id requests ≡ false
    → is_given later.request.id (requests ++ arrival ∷ []) ≡ false
new_more [] arrival later two h = rw (ne_eqb arrival.request.id later.request.id two) refl
new_more (first ∷ requests) arrival later two h =
    let p = parted (first.request.id == later.request.id) (is_given later.request.id requests) h in
    neither (first.request.id == later.request.id) (is_given later.request.id (requests ++ arrival ∷ [])) p.0 (new_more requests arrival later two p.1)

-- the rows of requests
requests_more : (threads : ℕ) (passes : List GivenPass) (turns : List ℕ) (before requests : List Arrival) (rest : List Fields) (arrivals : Arrivals) → threads < 256 → length turns ≤ 174762
    → Each (IsArrival threads (length turns)) requests → Each HasId requests → EachLater ComesBefore requests → EachLater HaveTwoIds requests
    → Each (ComesAfter (last_in before)) requests → Each (λ arrival. is_given arrival.request.id before ≡ false) requests
    → IsReadAs threads (given passes turns (before ++ requests)) rest arrivals → IsReadAs threads (given passes turns before) (map request_fields requests ++ rest) arrivals
requests_more threads passes turns before [] rest arrivals few short each ids rising once after new more =
    subst (λ (all : List Arrival). IsReadAs threads (given passes turns all) rest arrivals) (append-nil before) more
requests_more threads passes turns before (arrival ∷ requests) rest arrivals few short each ids rising once after new more =
    let later = subst (λ (all : List Arrival). IsReadAs threads (given passes turns all) rest arrivals) (sym (append_assoc before (arrival ∷ []) requests)) more in
    let own = each_first (ComesAfter (last_in before)) arrival requests after in
    let fresh = each_first (λ arrival. is_given arrival.request.id before ≡ false) arrival requests new in
    let others = each_other (λ arrival. is_given arrival.request.id before ≡ false) arrival requests new in
    let two = later_first HaveTwoIds arrival requests once in
    let comes = later_first ComesBefore arrival requests rising in
    let next_after : Each (ComesAfter (last_in (before ++ arrival ∷ []))) requests = record {
      at = λ k y e other is. let same : arrival ≡ other = some_same arrival other (sym (last_in-end before arrival) ∙ is) in subst (λ (a : Arrival). ComesBefore a y) same (comes.at k y e);
    } in
    let next_new : Each (λ (later : Arrival). is_given later.request.id (before ++ arrival ∷ []) ≡ false) requests = record {
      at = λ k y e. new_more before arrival y (two.at k y e) (others.at k y e);
    } in
    row_more threads (given passes turns before) _ (request_fields arrival) _ arrivals
    (request_taken threads passes turns before arrival few short (each_first (IsArrival threads (length turns)) arrival requests each) (each_first HasId arrival requests ids)
    (is_after (last_in before) arrival own) fresh)
    (requests_more threads passes turns (before ++ arrival ∷ []) requests rest arrivals few short (each_other (IsArrival threads (length turns)) arrival requests each)
    (each_other HasId arrival requests ids) (later_other ComesBefore arrival requests rising) (later_other HaveTwoIds arrival requests once) next_after next_new later)
  where
    some_same : (a b : Arrival) → Some a ≡ Some b → a ≡ b
    some_same a b e = cc

-- the end row
end_more : (threads : ℕ) (arrivals : Arrivals) → threads < 256 → Fits threads arrivals
    → IsReadAs threads (given arrivals.passes arrivals.turns arrivals.requests) (end_fields (row_count arrivals) ∷ []) arrivals
end_more threads arrivals few fits =
    let done : IsReadAs threads (all_given arrivals.passes arrivals.turns arrivals.requests) [] arrivals = record {
      from = λ row. ends (take_row threads) whole (all_given arrivals.passes arrivals.turns arrivals.requests) row;
    } in
    row_more threads (given arrivals.passes arrivals.turns arrivals.requests) _ (end_fields (row_count arrivals)) [] arrivals
    (end_taken threads arrivals.passes arrivals.turns arrivals.requests (row_count arrivals) (count_word threads arrivals few fits) refl) done

-- all rows after the header
rows_more : (threads : ℕ) (arrivals : Arrivals) → threads < 256 → Fits threads arrivals → AreSpelled arrivals
    → IsReadAs threads at_start (map pass_fields arrivals.passes ++ (map turn_fields arrivals.turns ++ (map request_fields arrivals.requests ++ end_fields (row_count arrivals) ∷ []))) arrivals
rows_more threads arrivals few fits words =
    let end = end_more threads arrivals few fits in
    let requests = requests_more threads arrivals.passes arrivals.turns [] arrivals.requests _ arrivals few fits.few_turns fits.each words.ids fits.rising fits.once
    (record { at = λ k y e other is. absurd (cc) }) (record { at = λ k y e. refl }) end in
    let few_passes = fits.few_passes in
    let few_turns = fits.few_turns in
    let turns = turns_more threads arrivals.passes [] arrivals.turns _ arrivals (omega (arith, few_turns)) words.turns fits.clocks fits.never_fall (record { at = λ k y e. omega arith }) requests in
    passes_more threads [] arrivals.passes _ arrivals (omega (arith, few_passes)) words.passes turns

header_taken : (rest : List Fields) → in_version_one (header_of (codes "caladan-arrivals") (header_row ∷ rest)) ≡ Ok (version.One, rest)
unfolding field_at
header_taken rest = refl

-- the text of arrivals that fit is read as these arrivals
pub arrivals_back : (threads : ℕ) (arrivals : Arrivals) → threads < 256 → Fits threads arrivals → AreSpelled arrivals → arrivals_of threads (rows_of (arrivals_text arrivals)) ≡ Ok arrivals
arrivals_back threads arrivals few fits words =
    let start = rows_more threads arrivals few fits words in
    ap (arrivals_of threads) (rows_back threads arrivals few fits words) ∙ ap (read_under (λ version. take_row threads) whole at_start) (header_taken _) ∙ start.from 1
