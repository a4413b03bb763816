use Rattle.cal_run.proofs.Common.{◌≡◌, [], map, ap, sym, ◌∙◌, into_iter_items, run_of}
use Rattle.cal_run.proofs.ClosingLemmas.Ends.{all_closed, nothing_left}
use Rattle.cal_run.proofs.closing.pages_and_rings.close_each.Goals as goal

pub returns : goal.returns
returns c =
    let at = c.loop-end in
    let none : into_iter_items at.end-iterator ≡ [] = nothing_left _ (sym at.invariant.ends ∙ c.in-None.ensures.steps.0) in
    let all = all_closed _ _ _ _ at.invariant.so_far (ap (map run_of) none) in
    rw (← c.into_iter-end-iterator.ensures.into_iter_gives.0, ← c.into_iter-observers.ensures.rest, ← c.into_iter-watchers.ensures.rest, ← c.into_iter-senders.ensures.rest) all
