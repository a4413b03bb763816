use Rattle.cal_laws.specs.Point.{setting_at, made_at}
use Rattle.cal_laws.proofs.PointLemmas.EachAction.{safe_at}
use Rattle.cal_guard.proofs.Sending.{sends_few}
use Rattle.cal_guard.proofs.Steady.{permitted_at, safe_point}
use Rattle.cal_guard.proofs.laws.commands_go_where_is_room.Goals as goal

pub returns : goal.returns
returns c = λ here is a e k lt.
    let steady = (safe_at here (safe_point c.permitted_is_safe.ensures here is) a e).steady in
    ((sends_few c.last_thread_is_placed.ensures (setting_at here) (made_at here) a steady (permitted_at here is a e).may k).may lt).room
