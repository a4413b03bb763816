use Rattle.cal_guard.proofs.Common.{Grant, actions_at}
use Rattle.cal_laws.proofs.ChoiceLemmas.Idle.{goes_to_idle}
use Rattle.cal_guard.proofs.Steady.{permitted_at}
use Rattle.cal_guard.proofs.laws.runs_go_to_idle_threads.Goals as goal

pub returns : goal.returns
returns c = λ here is core thread class e. goes_to_idle here.table (actions_at here) core thread class (permitted_at here is (Grant core thread class) e).fits
