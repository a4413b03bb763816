use Rattle.cal_run.proofs.Common.{◌≡◌, ◌++◌, drop, length, map, sym, subst, take, ◌∙◌, KeepsItsWork, IsAccounted, HandedOutNothing, run_of, IsTeam, EndView, AreClosed, IsEndOf}
use Rattle.std.proofs.lemmas.Slice.Zip.{AllZip-long}
use Rattle.cal_sched.proofs.Lists.{written_whole}
use Rattle.cal_run.proofs.ClosingLemmas.Closed.{each_end, have_closed, length_alike, others_at_ends, places_at_ends}
use Rattle.cal_run.proofs.closing.pages_and_rings.close_threads.Goals as goal

pub settle_and_hand_out-requires-clause-count : goal.settle_and_hand_out-requires-clause-count
settle_and_hand_out-requires-clause-count c = rw c.as_mut_slice.ensures.value (AllZip-long IsEndOf _ _ c.in_ok-ends.ensures ∙ c.requires.count)

pub settle_and_hand_out-requires-clause-team : goal.settle_and_hand_out-requires-clause-team
settle_and_hand_out-requires-clause-team c =
    let places = places_at_ends _ _ c.in_ok-ends.ensures in
    rw c.as_mut_slice.ensures.value (subst IsTeam (sym places) c.requires.team)

pub settle_and_hand_out-requires-clause-work : goal.settle_and_hand_out-requires-clause-work
settle_and_hand_out-requires-clause-work c = rw c.as_mut_slice.ensures.value (each_end KeepsItsWork (λ worker e its. its.work) _ _ c.in_ok-ends.ensures)

pub settle_and_hand_out-requires-clause-untouched : goal.settle_and_hand_out-requires-clause-untouched
settle_and_hand_out-requires-clause-untouched c = rw c.as_mut_slice.ensures.value (each_end HandedOutNothing (λ worker e its. its.untouched) _ _ c.in_ok-ends.ensures)

pub close_each-requires : goal.close_each-requires
close_each-requires c =
    let old = c.in_ok-ends.ends in
    let new = c.settle_and_hand_out.new.ends in
    let same : map run_of new ≡ map run_of old.items = rw (← c.as_mut_slice.ensures.value) c.in_ok-left.ensures.same in
    let whole : take old.len (new ++ drop (length new) old.items) ≡ new = written_whole old.len new old.items old.ok.0 (length_alike run_of new old.items same) in
    rw whole (others_at_ends c.args.workers.items old.items new _ _ _ c.in_ok-ends.ensures same c.requires.others)

pub returns : goal.returns
returns c =
    let old = c.in_ok-ends.ends in
    let new = c.settle_and_hand_out.new.ends in
    let same : map run_of new ≡ map run_of old.items = rw (← c.as_mut_slice.ensures.value) c.in_ok-left.ensures.same in
    let whole : take old.len (new ++ drop (length new) old.items) ≡ new = written_whole old.len new old.items old.ok.0 (length_alike run_of new old.items same) in
    let closed : AreClosed (map run_of new) c.args.observers.items c.args.watchers.items c.args.senders.items = rw (← whole) c.close_each.ensures in
    let count : length c.in_ok-left.left.items ≡ length old.items = rw (← c.as_mut_slice.ensures.value) c.in_ok-left.ensures.count in
    let account : IsAccounted (map (λ (e : EndView). e.journal) old.items) c.in_ok-left.left.items = rw (← c.as_mut_slice.ensures.value) c.in_ok-left.ensures.account in
    have_closed c.args.workers.items old.items new _ _ _ c.in_ok-ends.ensures same c.requires.others closed _ count account
