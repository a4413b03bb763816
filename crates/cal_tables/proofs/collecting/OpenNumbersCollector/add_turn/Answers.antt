use Rattle.cal_tables.proofs.Common.{◌∙◌, subst, sym, Table, IsOpenFor, IsWalkOf, Walk}
use Rattle.cal_tables.proofs.collecting.OpenNumbersCollector.add_turn.Goals as goal

pub returns-clause-suits : goal.returns-clause-suits
returns-clause-suits c = λ table suits. (c.turn.ensures.table ∙ suits.0, subst (λ (w : Walk). IsOpenFor table w) (sym c.turn.ensures.walk) suits.1)

pub returns-clause-collected : goal.returns-clause-collected
returns-clause-collected c = λ history journals journal held at few. record {
  walk = subst (λ (t : Table). IsWalkOf t history c.turn.new.self.walk) (sym c.turn.ensures.table)
      (subst (λ (w : Walk). IsWalkOf c.args.self.now.config history w) (sym c.turn.ensures.walk) held.walk);
  threads = c.in_ok-turn.ensures.threads journals journal held.threads at few;
}
