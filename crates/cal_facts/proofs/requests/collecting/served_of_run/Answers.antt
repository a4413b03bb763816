use Rattle.cal_facts.proofs.Common.{ℕ, List, subst, sym, run_end, AreTotalsOfEach, ThreadTotals}
use Rattle.cal_facts.proofs.requests.collecting.served_of_run.Goals as goal

pub returns : goal.returns
returns c arrivals planned =
    let run = c.in_ok-collected_by.ensures.run arrivals planned in
    let journals = run.outcome.journals in
    let last = run_end c.collected_by.new.given in
    let totals = subst (λ (n : ℕ). AreTotalsOfEach n journals c.in_ok-threads.threads.items) c.run_end.ensures (c.in_ok-threads.ensures journals run.collected) in record {
      outcome = run.outcome;
      run = run.run;
      are = c.in_ok-served.ensures last journals
          (subst (λ (l : List ThreadTotals). AreTotalsOfEach last journals l) (sym c.as_slice.ensures.value) totals);
    }
