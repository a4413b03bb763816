use Rattle.cal_facts.proofs.Common.{ℕ, List, subst, sym, run_end, AreTotalsOfEach, ThreadTotals}
use Rattle.cal_facts.proofs.requests.collecting.served_of_replay.Goals as goal

pub returns : goal.returns
returns c arrivals planned =
    let run = c.in_ok-replayed_by.ensures.replay in
    let journals = run.journals in
    let last = run_end c.replayed_by.new.given in
    let totals = subst (λ (n : ℕ). AreTotalsOfEach n journals c.in_ok-threads.threads.items) c.run_end.ensures (c.in_ok-threads.ensures journals run.collected) in record {
      journals = journals;
      left = c.in_ok-replayed_by.field-0;
      replay = record {
        planned = c.args.given.now;
        by_plan = planned;
        back = c.in_ok-replayed_by.ensures.given;
        replay = run.replay;
      };
      are = c.in_ok-served.ensures last journals
          (subst (λ (l : List ThreadTotals). AreTotalsOfEach last journals l) (sym c.as_slice.ensures.value) totals);
    }
