use Rattle.cal_facts.proofs.Common.{Result, subst, sym, RunInput, RunFault, IsAskedRun}
use Rattle.cal_facts.proofs.requests.requests_asked.Goals as goal

pub returns-clause-run : goal.returns-clause-run
returns-clause-run c =
    subst (λ (o : Result RunInput RunFault). IsAskedRun c.args.asked o c.in_ok-run.run') (sym c.in_ok-config.ensures.exact) c.in_ok-run.ensures.run
