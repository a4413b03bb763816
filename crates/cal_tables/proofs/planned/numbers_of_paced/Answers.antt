use Rattle.cal_tables.proofs.Common.{◌∙◌, subst, sym, Table, IsOpenFor, Walk, AreRunNumbers, FitsTable}
use Rattle.cal_tables.proofs.planned.numbers_of_paced.Goals as goal

pub paced_collected_by-requires-clause-suits : goal.paced_collected_by-requires-clause-suits
paced_collected_by-requires-clause-suits c = (c.in_ok-numbers.ensures.table, c.in_ok-numbers.ensures.open)

pub numbers_of_run-requires-clause-fits : goal.numbers_of_run-requires-clause-fits
numbers_of_run-requires-clause-fits c =
    subst (λ (t : Table). FitsTable t c.paced_collected_by.new.given) (sym (c.in_ok-ended.ensures.table ∙ c.in_ok-left.ensures.suits.0)) c.in_ok-left.ensures.fits

pub numbers_of_run-requires-clause-open : goal.numbers_of_run-requires-clause-open
numbers_of_run-requires-clause-open c =
    let suits = c.in_ok-left.ensures.suits in
    subst (λ (t : Table). IsOpenFor t c.in_ok-ended.ended.walk) (sym (c.in_ok-ended.ensures.table ∙ suits.0))
    (subst (λ (w : Walk). IsOpenFor c.args.config.now w) (sym c.in_ok-ended.ensures.walk) suits.1)

pub returns-clause-numbers : goal.returns-clause-numbers
returns-clause-numbers c arrivals planned =
    let given = c.paced_collected_by.new.given in
    let run = c.in_ok-left.ensures.run arrivals planned.paced in
    let at_end = c.in_ok-ended.ensures.ended run.outcome run.collected run.left in
    let table = c.in_ok-ended.ensures.table ∙ c.in_ok-left.ensures.suits.0 in
    record {
      may = planned.may;
      given = given;
      outcome = run.outcome;
      run = run.run;
      are = subst (λ (t : Table). AreRunNumbers t given c.args.counted.now run.outcome c.in_ok-numbers_of_run.field-0) table
          (c.in_ok-numbers_of_run.ensures run.outcome at_end);
    }
