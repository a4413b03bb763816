use Rattle.cal_kthread.proofs.TeamLemmas.Lending.{robs-agree}
use Rattle.cal_kthread.proofs.bare_thread.BareThread.rob.Goals as goal

pub invariant_of-self-2 : goal.invariant_of-self-2
invariant_of-self-2 c = robs-agree _ c.self.inside.thread c.rob.new.self c.args.source c.requires c.self.invariant c.in_ok-rob.ensures
