-- The rounds of a watch, one after the other.
use Rattle.cal_run.proofs.Common.{◌≡◌, ◌+◌, ◌<◌, ◌≤◌, ⊎_elim, List, [], ◌∷◌, length, Bool, true, false, refl, ap, ◌∙◌, arith, length-append, min, ◌↔◌, IsTrue, MatchBool, cases_lt, slice_get_within, IsRoundMore, WatchView, ObserverView, watch_seat_of, slice_get_at}
use Rattle.cal_run.proofs.Members.{same_of_each}

-- one round more, where one was left to make
pub rounds_after : (made : Bool) (before after : WatchView) → length before.rounds ≤ before.most →
    (IsTrue made ↔ length before.rounds < before.most) → MatchBool made (IsRoundMore before after) (after ≡ before) →
    length after.rounds ≡ min (length before.rounds + 1) before.most
rounds_after true before after few exactly more =
    let low = exactly.0 refl in
    let added = ap (λ (l : List (List _)). length l) more.rounds ∙ length-append before.rounds (more.round ∷ []) in
    omega (arith, low, added)
rounds_after false before after few exactly more =
    let same = ap (λ (w : WatchView). length w.rounds) more in
    ⊎_elim (λ low. let e = exactly.1 low in absurd (cc)) (λ high. omega (arith, few, high, same)) (cases_lt (length before.rounds) before.most)

-- and it keeps the watch's seat
pub watch_stays : (made : Bool) (before after : WatchView) → MatchBool made (IsRoundMore before after) (after ≡ before) →
    watch_seat_of after ≡ watch_seat_of before
watch_stays true before after more =
    let given = more.given in
    let most = more.most in
    let pages = same_of_each (λ (o : ObserverView). o.page) before.observers after.observers more.looked.observers (λ k was is at there.
    let low = slice_get_within before.observers k was at in
    let many = more.looked.one_each in
    let look = slice_get_at more.round k (omega (arith, low, many)) in
    (more.looked.each k was is look.0 at there look.1).page) in
    λ i. record { given = given i; pages = pages i; most = most i }
watch_stays false before after more = ap watch_seat_of more
