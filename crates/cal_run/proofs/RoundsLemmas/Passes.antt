-- The passes of a run, one after the other.
use Rattle.cal_run.proofs.Common.{◌≡◌, ℕ, map, ◌∙◌, arith, slice_get_within, SenderView, IsKept, SchedulerView, ObserverView, scheduler_seat_of, slice_get_at}
use Rattle.cal_sched.specs.Passing.{IsPassed}
use Rattle.cal_run.proofs.Members.{same_of_each}

-- a pass keeps the pages
pages_stay : (now bandwidth : ℕ) (before after : SchedulerView) → IsPassed now bandwidth before after →
    map (λ (o : ObserverView). o.page) after.observers ≡ map (λ (o : ObserverView). o.page) before.observers
pages_stay now bandwidth before after passed =
    same_of_each (λ (o : ObserverView). o.page) before.observers after.observers passed.finds.pages (λ k was is at there.
    let low = slice_get_within before.observers k was at in
    let many = passed.finds.one_each in
    let found = slice_get_at passed.found k (omega (arith, low, many)) in
    (passed.finds.looks k was is found.0 at there found.1).page)

-- and the rings
rings_stay : (now bandwidth : ℕ) (before after : SchedulerView) → IsPassed now bandwidth before after → IsKept after →
    map (λ (s : SenderView). s.ring) after.senders ≡ map (λ (s : SenderView). s.ring) before.senders
rings_stay now bandwidth before after passed kept =
    same_of_each (λ (s : SenderView). s.ring) passed.asked after.senders passed.sends.rings passed.sends.same
    ∙ same_of_each (λ (s : SenderView). s.ring) before.senders passed.asked passed.finds.rings (λ k was is at there.
    let low = slice_get_within before.senders k was at in
    let many = passed.finds.one_each in
    let pages = passed.finds.pages in
    let asked = passed.finds.rings in
    let sent = passed.sends.rings in
    let all_pages = kept.pages in
    let all_rings = kept.rings in
    let found = slice_get_at passed.found k (omega (arith, low, many, pages, asked, sent, all_pages, all_rings)) in
    (passed.finds.rooms k was is found.0 at there found.1).ring)

-- so it keeps the scheduler's seat
pub seat_stays : (now bandwidth : ℕ) (before after : SchedulerView) → IsPassed now bandwidth before after → IsKept after →
    scheduler_seat_of after ≡ scheduler_seat_of before
seat_stays now bandwidth before after passed kept =
    let table = passed.table in
    let policy = passed.policy in
    let pages = pages_stay now bandwidth before after passed in
    let rings = rings_stay now bandwidth before after passed kept in
    λ i. record { table = table i; policy = policy i; pages = pages i; rings = rings i }
