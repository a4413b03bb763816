use Rattle.cal_run.proofs.CollectorLemmas.Opened.{no_pass_yet}
use Rattle.cal_threads.proofs.running.start_scheduler.Goals as goal

-- it made no pass yet, so it has no history
pub new-scheduler-requires : goal.new-scheduler-requires
new-scheduler-requires g c = no_pass_yet c.args.arrivals.now c.args.scheduler c.requires.none
