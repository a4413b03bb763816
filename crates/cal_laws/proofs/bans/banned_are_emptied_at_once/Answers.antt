use Rattle.cal_laws.proofs.BanLemmas.Emptied.{just_banned}
use Rattle.cal_laws.proofs.bans.banned_are_emptied_at_once.Goals as goal

pub returns : goal.returns
returns c = just_banned c.action_is_one_more.ensures c.chosen_is_of_least_class.ensures
