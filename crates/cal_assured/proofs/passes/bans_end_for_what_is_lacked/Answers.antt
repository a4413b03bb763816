use Rattle.cal_assured.proofs.Ending.{bans_end}
use Rattle.cal_assured.proofs.passes.bans_end_for_what_is_lacked.Goals as goal

pub returns : goal.returns
returns c = bans_end c.action_is_one_more.ensures
