-- Requests with one more at their end.
use Rattle.cal_load.proofs.Common.{◌≡◌, ◌<◌, ◌≤◌, ◌+◌, ◌^◌, inl, inr, ℕ, zero, suc, List, [], ◌∷◌, ◌++◌, length, take, get_or, Option, Some, None, slice_get, ◌-◌, ◌∙◌, refl, ap, sym, subst, arith, length-append, take_more, slice_get-get_or, slice_get-last, IsBefore, HasIdTo, AreBuiltTo, AreBuilt, IsEarlier, IsSlot, EachLater, IsArrival, ComesBefore, HaveTwoIds, Each, Arrival, each_push}
use Rattle.cal_load.specs.declared.making.Slot.{Slot}
use Rattle.cal_trace.specs.Arrivals.{last_in}
use Rattle.cal_trace.specs.declared.arrivals.reading.TheConstants.{MOST_WORK, MOST_REQUEST_MISSES}
use Rattle.cal_trace.proofs.ListLemmas.EachLater.{later_push}

comes : (thread turn : ℕ) (a b : Arrival) → b.thread ≡ thread → turn ≤ b.turn → IsBefore thread turn a → ComesBefore a b
comes thread turn a b same after (inl lt) = inl (omega (arith, same, lt))
comes thread turn a b same after (inr at) = let is = at.0 in let lt = at.1 in inr (omega (arith, same, is), omega (arith, after, lt))

later_turn : (thread turn later : ℕ) (a : Arrival) → turn ≤ later → IsBefore thread turn a → IsBefore thread later a
later_turn thread turn later a le (inl lt) = inl lt
later_turn thread turn later a le (inr at) = let lt = at.1 in inr (at.0, omega (arith, le, lt))

-- one more request, for the thread at hand
pub built_more : (threads turns thread turn : ℕ) (requests : List Arrival) (arrival : Arrival) → AreBuiltTo threads turns thread turn requests → IsArrival threads turns arrival
    → arrival.thread ≡ thread → turn ≤ arrival.turn → arrival.request.id ≡ length requests + 1 → arrival.request.id < 2 ^ 64
    → AreBuiltTo threads turns thread (arrival.turn + 1) (requests ++ arrival ∷ [])
built_more threads turns thread turn requests arrival b is same after id word =
    let long = length-append requests (arrival ∷ []) in
    let old_before : Each (IsBefore thread (arrival.turn + 1)) requests = record { at = λ k a e. later_turn thread turn (arrival.turn + 1) a (omega (arith, after)) (b.before.at k a e) } in
    let old_ids : Each (HasIdTo (length (requests ++ arrival ∷ []))) requests = record {
      at = λ k a e. let own = b.ids.at k a e in let few = own.0 in (omega (arith, few, long), own.1);
    } in
    record {
      each = each_push (IsArrival threads turns) requests arrival b.each is;
      rising = later_push ComesBefore requests arrival b.rising (record { at = λ k a e. comes thread turn a arrival same after (b.before.at k a e) });
      once = later_push HaveTwoIds requests arrival b.once (record { at = λ k a e alike. let few = (b.ids.at k a e).0 in omega (arith, few, alike, id) });
      before = each_push (IsBefore thread (arrival.turn + 1)) requests arrival old_before (inr (same, omega arith));
      ids = each_push (HasIdTo (length (requests ++ arrival ∷ []))) requests arrival old_ids (omega (arith, id, long), word);
    }

from : (thread later : ℕ) (a : Arrival) → thread ≤ later → IsBefore thread 0 a → IsBefore later 0 a
from thread later a le (inl lt) = inl (omega (arith, le, lt))
from thread later a le (inr at) = let none = at.1 in absurd (omega (arith, none))

pub built_from : (threads turns thread later : ℕ) (requests : List Arrival) → thread ≤ later → AreBuilt threads turns thread requests → AreBuilt threads turns later requests
built_from threads turns thread later requests le b = record {
  each = b.each;
  rising = b.rising;
  once = b.once;
  before = record { at = λ k a e. from thread later a le (b.before.at k a e) };
  ids = b.ids;
}

-- the turn after a request
abbrev pub end_at : Option Slot → ℕ
end_at None = 0
end_at (Some slot) = slot.turn + 1

-- the turn after the last of some requests
abbrev pub end_of : List Slot → ℕ
end_of slots = end_at (last_in slots)

end_of-push : (slots : List Slot) (slot : Slot) → end_of (slots ++ slot ∷ []) ≡ slot.turn + 1
end_of-push slots slot =
    let same : length (slots ++ slot ∷ []) - 1 ≡ length slots = omega (arith, length-append slots (slot ∷ [])) in
    ap (λ n. end_at (slice_get (slots ++ slot ∷ []) n)) same ∙ ap end_at (slice_get-last slots slot)

pub end_of-more : (slots : List Slot) (i : ℕ) (d : Slot) → i < length slots → end_of (take (i + 1) slots) ≡ (get_or slots i d).turn + 1
end_of-more slots i d lt = ap end_of (take_more slots i d lt) ∙ end_of-push (take i slots) (get_or slots i d)

-- in rising order each request comes after the end of those before it
pub end_of-le : (slots : List Slot) (i : ℕ) (d : Slot) → i < length slots → EachLater IsEarlier slots → end_of (take i slots) ≤ (get_or slots i d).turn
end_of-le slots zero d lt rising = omega arith
end_of-le slots (suc i) d lt rising =
    let next : suc i ≡ i + 1 = omega arith in
    let earlier : (get_or slots i d).turn < (get_or slots (suc i) d).turn =
    rising.at i (suc i) (get_or slots i d) (get_or slots (suc i) d) (omega arith) (slice_get-get_or slots i d (omega arith)) (slice_get-get_or slots (suc i) d lt) in
    let is = ap (λ n. end_of (take n slots)) next ∙ end_of-more slots i d (omega arith) in
    omega (arith, is, earlier)

-- the request at the next place of what comes to a thread
pub put_more : (threads turns thread i : ℕ) (slots xs : List Slot) (d : Slot) (old new : List Arrival) (arrival : Arrival) → xs ≡ slots → i < length slots → thread < threads
    → Each (IsSlot turns) slots → EachLater IsEarlier slots → arrival.thread ≡ thread → arrival.turn ≡ (get_or xs i d).turn → arrival.request.work ≡ (get_or xs i d).work
    → arrival.request.misses < 2 ^ 32 → arrival.request.id ≡ length old + 1 → arrival.request.id < 2 ^ 64 → new ≡ old ++ arrival ∷ []
    → AreBuiltTo threads turns thread (end_of (take i slots)) old → AreBuiltTo threads turns thread (end_of (take (i + 1) slots)) new
put_more threads turns thread i slots xs d old new arrival same lt below each rising of_thread turn work misses id word more b =
    let slot = get_or slots i d in
    let at : arrival.turn ≡ slot.turn = turn ∙ ap (λ (l : List Slot). (get_or l i d).turn) same in
    let takes : arrival.request.work ≡ slot.work = work ∙ ap (λ (l : List Slot). (get_or l i d).work) same in
    let is = each.at i slot (slice_get-get_or slots i d lt) in
    let within = is.turn in
    let some = is.work.0 in
    let most = is.work.1 in
    let next : arrival.turn + 1 ≡ end_of (take (i + 1) slots) = let e = end_of-more slots i d lt in omega (arith, e, at) in
    let of : IsArrival threads turns arrival = record {
      thread = omega (arith, of_thread, below);
      turn = omega (arith, at, within);
      some_work = omega (arith, takes, some);
      most_work = let limit : MOST_WORK ≡ 1000000 = refl in omega (arith, takes, most, limit);
      misses = let limit : MOST_REQUEST_MISSES ≡ 4294967295 = refl in omega (arith, misses, limit);
    } in
    let after : end_of (take i slots) ≤ arrival.turn = let e = end_of-le slots i d lt rising in omega (arith, e, at) in
    let grown = built_more threads turns thread (end_of (take i slots)) old arrival b of of_thread after id word in
    subst (λ (n : ℕ). AreBuiltTo threads turns thread n new) next (subst (λ (l : List Arrival). AreBuiltTo threads turns thread (arrival.turn + 1) l) (sym more) grown)
