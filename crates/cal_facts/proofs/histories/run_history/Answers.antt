use Rattle.cal_facts.proofs.Common.{Result, refl, subst, sym, RunInput, RunFault}
use Rattle.cal_facts.specs.Histories.{IsAskedHistory}
use Rattle.cal_facts.specs.declared.histories.RunHistory.{RunHistory}
use Rattle.cal_facts.proofs.histories.run_history.Goals as goal

pub returns-clause-history : goal.returns-clause-history
returns-clause-history c =
    let is : RunHistory = record { config = c.in_ok-config.config; passes = c.in_ok-passes.passes } in
    subst (λ (o : Result RunInput RunFault). IsAskedHistory c.args.plan c.args.policy o is) (sym c.in_ok-config.ensures.exact) (refl, c.in_ok-passes.ensures.passes)
