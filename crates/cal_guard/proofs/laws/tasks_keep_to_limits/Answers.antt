use Rattle.cal_guard.proofs.Common.{actions_at, held_le_booked}
use Rattle.cal_guard.proofs.Steady.{steady_at}
use Rattle.cal_guard.proofs.laws.tasks_keep_to_limits.Goals as goal

pub returns : goal.returns
returns c = λ here is t lt. record { held = held_le_booked here.table (actions_at here) t; booked = (steady_at here is).limits t lt }
