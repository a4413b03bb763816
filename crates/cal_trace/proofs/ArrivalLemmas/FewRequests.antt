-- Arrivals that fit have no more requests than there are places for them, so that a field can spell how many rows there are.
use Rattle.cal_trace.proofs.Common.{◌<◌, ◌≤◌, ◌+◌, ◌*◌, inl, inr, ℕ, List, [], ◌∷◌, length, arith, EachLater, IsArrival, ComesBefore, Fits, row_count, Each, IsWord, Arrival, Arrivals}
use Rattle.cal_trace.proofs.ListLemmas.EachLater.{later_first, later_other}
use Rattle.cal_trace.proofs.ListLemmas.EachOne.{each_first, each_other}

-- the place of a request among those that a file can have, where a thread has so many turns
abbrev place_of : Arrival → ℕ
place_of arrival = arrival.thread * 174762 + arrival.turn

later_place : (a b : Arrival) → a.turn < 174762 → ComesBefore a b → place_of a < place_of b
later_place a b small (inl before) = omega (arith, small, before)
later_place a b small (inr same) = let thread = same.0 in let turn = same.1 in omega (arith, thread, turn)

-- requests in rising order, from this place on
count : (threads turns from : ℕ) (requests : List Arrival) → threads < 256 → turns ≤ 174762 → from ≤ 256 * 174762 → Each (IsArrival threads turns) requests
    → EachLater ComesBefore requests → Each (λ arrival. from ≤ place_of arrival) requests → length requests + from ≤ 256 * 174762
count threads turns from [] few short start each rising places = omega (arith, start)
count threads turns from (arrival ∷ requests) few short start each rising places =
    let is = each_first (IsArrival threads turns) arrival requests each in
    let thread = is.thread in
    let turn = is.turn in
    let small : arrival.turn < 174762 = omega (arith, turn, short) in
    let here : from ≤ place_of arrival = each_first (λ arrival. from ≤ place_of arrival) arrival requests places in
    let below : place_of arrival < 256 * 174762 = omega (arith, thread, few, small) in
    let after = later_first ComesBefore arrival requests rising in
    let later : Each (λ arrival. from + 1 ≤ place_of arrival) requests = record {
      at = λ k y e. let more = later_place arrival y small (after.at k y e) in omega (arith, here, more);
    } in
    let rest = count threads turns (from + 1) requests few short (omega (arith, here, below)) (each_other (IsArrival threads turns) arrival requests each)
    (later_other ComesBefore arrival requests rising) later in
    omega (arith, rest)

-- a field can spell how many rows there are
pub count_word : (threads : ℕ) (arrivals : Arrivals) → threads < 256 → Fits threads arrivals → IsWord (row_count arrivals)
count_word threads arrivals few fits =
    let passes = fits.few_passes in
    let turns = fits.few_turns in
    let requests = count threads (length arrivals.turns) 0 arrivals.requests few turns (omega arith) fits.each fits.rising (record { at = λ k y e. omega arith }) in
    omega (arith, passes, turns, requests)
