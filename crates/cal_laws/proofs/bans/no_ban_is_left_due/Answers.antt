use Rattle.cal_laws.proofs.BanLemmas.BansMade.{comes_to_bans}
use Rattle.cal_laws.proofs.BanLemmas.NoneDue.{none_left_due}
use Rattle.cal_laws.proofs.bans.no_ban_is_left_due.Goals as goal

pub returns : goal.returns
returns c = record { end = comes_to_bans; none = none_left_due c.action_is_one_more.ensures }
