use Rattle.cal_tables.proofs.Common.{◌∙◌, subst, sym, Table, IsOpenFor, Walk, AreRunNumbers, FitsTable}
use Rattle.cal_tables.proofs.measuring.counted_run.Goals as goal

pub lockstep_collected_by-requires-clause-suits : goal.lockstep_collected_by-requires-clause-suits
lockstep_collected_by-requires-clause-suits c = (c.in_ok-numbers.ensures.table, c.in_ok-numbers.ensures.open)

pub numbers_of_run-requires-clause-fits : goal.numbers_of_run-requires-clause-fits
numbers_of_run-requires-clause-fits c =
    subst (λ (t : Table). FitsTable t c.args.arrivals.now) (sym (c.in_ok-ended.ensures.table ∙ c.in_ok-left.ensures.suits.0)) c.requires.fits

pub numbers_of_run-requires-clause-open : goal.numbers_of_run-requires-clause-open
numbers_of_run-requires-clause-open c =
    let suits = c.in_ok-left.ensures.suits in
    subst (λ (t : Table). IsOpenFor t c.in_ok-ended.ended.walk) (sym (c.in_ok-ended.ensures.table ∙ suits.0))
    (subst (λ (w : Walk). IsOpenFor c.args.config.now w) (sym c.in_ok-ended.ensures.walk) suits.1)

pub returns-clause-numbers : goal.returns-clause-numbers
returns-clause-numbers c =
    let run = c.in_ok-left.ensures.run in
    let at_end = c.in_ok-ended.ensures.ended run.outcome run.collected run.left in
    let table = c.in_ok-ended.ensures.table ∙ c.in_ok-left.ensures.suits.0 in
    record {
      outcome = run.outcome;
      run = run.run;
      are = subst (λ (t : Table). AreRunNumbers t c.args.arrivals.now c.args.counted.now run.outcome c.in_ok-numbers_of_run.field-0) table
          (c.in_ok-numbers_of_run.ensures run.outcome at_end);
    }
