use Rattle.cal_facts.proofs.Common.{◌≡◌, ◌++◌, ◌∙◌, ◌+◌, ℕ, List, map, take, get_or, length, sym, ap, subst, arith, take-length, ThreadTotals, AreServed, served_by, Served}
use Rattle.cal_measure.specs.declared.services.Service.{Service}
use Rattle.cal_facts.proofs.ServedLemmas.{totals_from, totals_more, totals_told}
use Rattle.cal_facts.proofs.requests.served.ServedRequests.of.Goals as goal

pub loop-thread-preserved : goal.loop-thread-preserved
loop-thread-preserved c =
    let ts = c.args.threads.now in
    let k = c.loop-thread.thread in
    let d = c.index-threads-thread.result in
    let same : c.as_slice.result.now ≡ (get_or ts k d).services.items = c.as_slice.ensures.value in
    let more : totals_from 0 (take (k + 1) ts) ≡ totals_from 0 (take k ts) ++ map (served_by k) c.as_slice.result.now =
    totals_more ts k d c.loop-thread-test.true ∙ ap (λ (l : List Service). totals_from 0 (take k ts) ++ map (served_by k) l) (sym same) in
    subst (λ (l : List Served). AreServed l c.put_thread.new.self) (sym more) (c.in_ok-put_thread.ensures (totals_from 0 (take k ts)) c.loop-thread.invariant)

pub returns : goal.returns
returns c = λ last journals are.
    let ts = c.args.threads.now in
    let past = c.loop-thread-test.false in
    let end = c.loop-thread.auto.thread-end in
    let all : c.loop-thread.thread ≡ length ts = omega (arith, past, end) in
    let whole : take c.loop-thread.thread ts ≡ ts = ap (λ (n : ℕ). take n ts) all ∙ take-length ts in
    let same = ap (λ (l : List ThreadTotals). totals_from 0 l) whole ∙ sym (totals_told last 0 journals ts are) in
    subst (λ (l : List Served). AreServed l c.loop-thread.served) same c.loop-thread.invariant
