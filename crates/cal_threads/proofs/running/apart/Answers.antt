use Rattle.std.proofs.Common.{◌∙◌, ap, sym}
use Rattle.cal_run.specs.Workers.{journals_of}
use Rattle.cal_sched.specs.Scheduler.{SchedulerView}
use Rattle.cal_threads.proofs.running.apart.Goals as goal

-- what was collected is theirs
pub returns-clause-collected : goal.returns-clause-collected
returns-clause-collected c = record {
  history = c.into_parts-scheduler.ensures.history ∙ ap (λ (s : SchedulerView). s.history) (sym c.into_parts-scheduler.ensures.scheduler);
  journals = c.in_ok-workers.ensures.journals ∙ ap journals_of (sym c.in_ok-workers.ensures.workers);
}
