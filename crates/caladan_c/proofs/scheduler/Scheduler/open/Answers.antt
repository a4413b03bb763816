use Rattle.cal_policy.proofs.PolicyLemmas.{legal_none_by}
use Rattle.caladan_c.proofs.scheduler.Scheduler.open.Goals as goal

pub returns-clause-legal : goal.returns-clause-legal
returns-clause-legal c = legal_none_by c.args.policy _
