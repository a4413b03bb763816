use Rattle.cal_assured.proofs.PassLaws.{bans_leave}
use Rattle.cal_assured.proofs.passes.bans_leave_what_is_lacked.Goals as goal

pub returns : goal.returns
returns c = bans_leave
