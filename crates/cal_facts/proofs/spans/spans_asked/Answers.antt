use Rattle.cal_facts.proofs.Common.{Result, subst, sym, RunFault, Subject, spans_text, text_of_facts, IsAskedText}
use Rattle.cal_facts.proofs.WrittenLemmas.{spans_of_history, spans_of_run}
use Rattle.cal_facts.proofs.spans.spans_asked.Goals as goal

pub returns-in_ok-facts-in-Run-clause-facts : goal.returns-in_ok-facts-in-Run-clause-facts
returns-in_ok-facts-in-Run-clause-facts c =
    let facts = c.in_ok-facts-in-Run.facts in
    subst (λ (o : Result Subject RunFault). IsAskedText c.args.plan c.args.policy spans_text o (text_of_facts c.in-Run.config facts)) (sym (rw (c.is_some.ensures, c.in-Run.is) at c.in_ok-config.ensures.exact))
    (spans_of_run c.args.plan c.args.policy c.in-Run.config c.in-Run.arrivals facts c.in_ok-facts-in-Run.ensures.facts)

pub returns-in_ok-facts-in-History-clause-facts : goal.returns-in_ok-facts-in-History-clause-facts
returns-in_ok-facts-in-History-clause-facts c =
    let facts = c.in_ok-facts-in-History.facts in
    subst (λ (o : Result Subject RunFault). IsAskedText c.args.plan c.args.policy spans_text o (text_of_facts c.in-History.config facts)) (sym (rw (c.is_some.ensures, c.in-History.is) at c.in_ok-config.ensures.exact))
    (spans_of_history c.in-History.config _ c.in-History.history.items facts c.as_slice.ensures.value c.in_ok-facts-in-History.ensures)
