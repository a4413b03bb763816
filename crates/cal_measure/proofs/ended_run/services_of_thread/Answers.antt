use Rattle.cal_measure.proofs.Common.{◌∙◌, List, sym, subst, ap, Entry, timed_of, services_of, AreTotalsOf, turns_of, journal_of, ThreadTotals}
use Rattle.cal_measure.proofs.TotalsOfEach.{no_totals, totals_at}
use Rattle.cal_measure.proofs.ended_run.services_of_thread.Goals as goal

pub returns-in-Some : goal.returns-in-Some
returns-in-Some c = λ last journals each.
    let k = c.args.thread in
    let more = c.in-Some.totals.now in
    let found = c.in-Some.ensures.lookup in
    let told : AreTotalsOf last (journal_of journals k) more =
    subst (λ (totals : ThreadTotals). AreTotalsOf last (journal_of journals k) totals) (sym found.1) (totals_at last journals c.args.threads.now k more each found.3.0) in
    c.as_slice.ensures.value ∙ told.services

pub returns-in-None : goal.returns-in-None
returns-in-None c = λ last journals each.
    sym (ap (λ (j : List Entry). services_of (timed_of last (turns_of j))) (no_totals last journals c.args.threads.now c.args.thread each c.in-None.ensures.lookup.3))
