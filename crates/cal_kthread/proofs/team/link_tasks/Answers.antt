use Rattle.std.proofs.Common.{refl, ◌∙◌, arith}
use Rattle.cal_kthread.proofs.TeamLemmas.Opened.{none-linked, linked-task}
use Rattle.cal_kthread.proofs.team.link_tasks.Goals as goal

pub loop-t-init : goal.loop-t-init
loop-t-init c = (none-linked _ _ c.requires.fresh, refl)

pub loop-t-preserved : goal.loop-t-preserved
loop-t-preserved c = (
  linked-task c.args.config.now.tasks c.loop-t.t _ _ c.args.threads.now c.loop-t.threads c.link_task.new.threads c.threads_of-first.ensures.first c.threads_of-first.ensures.count
      (let a = c.loop-t-test.true in let b = c.tasks-t-end.ensures.count in omega (arith, a, b)) c.link_task.auto.threads c.loop-t.invariant.0 c.in_ok-link_task.ensures.0 c.in_ok-link_task.ensures.1,
  c.link_task.auto.threads ∙ c.loop-t.invariant.1,
)
