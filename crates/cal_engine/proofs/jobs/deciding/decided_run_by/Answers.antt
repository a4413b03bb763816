use Rattle.cal_engine.proofs.Common.{subst, IsLegalBy, Policy, decided_run_by}
use Rattle.cal_engine.proofs.InTurn.{history_kept}
use Rattle.cal_engine.proofs.jobs.deciding.decided_run_by.Goals as goal

pub returns-clause-exact : goal.returns-clause-exact
returns-clause-exact c = (history_kept c.decide_input.new.keeper.items c.in_ok-config.config c.in_ok-config._decider (decided_run_by c.args.policy c.args.input.now) c.in_ok-config.ensures.decided).0

pub returns-clause-legal : goal.returns-clause-legal
returns-clause-legal c = subst (λ (p : Policy). IsLegalBy p c.in_ok-config.config c.decide_input.new.keeper.items) c.in_ok-config.ensures.policy
    (history_kept c.decide_input.new.keeper.items c.in_ok-config.config c.in_ok-config._decider (decided_run_by c.args.policy c.args.input.now) c.in_ok-config.ensures.decided).1
