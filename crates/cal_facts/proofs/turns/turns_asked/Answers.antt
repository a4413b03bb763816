use Rattle.cal_facts.proofs.Common.{Result, subst, sym, RunInput, RunFault, IsAskedTurns, text_of_turns}
use Rattle.cal_facts.proofs.TurnLemmas.{turns_written}
use Rattle.cal_facts.proofs.turns.turns_asked.Goals as goal

pub returns-clause-turns : goal.returns-clause-turns
returns-clause-turns c =
    let config = c.in_ok-config.config in
    let works = c.in_ok-works.works.items in
    subst (λ (o : Result RunInput RunFault). IsAskedTurns c.args.plan c.args.policy o (text_of_turns config works)) (sym c.in_ok-config.ensures.exact)
    (turns_written c.args.plan c.args.policy config c.in_ok-config.arrivals works c.in_ok-works.ensures.turns)
