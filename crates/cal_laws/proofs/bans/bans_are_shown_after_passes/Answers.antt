use Rattle.cal_laws.proofs.BanLemmas.ShownBans.{shown_at_end}
use Rattle.cal_laws.proofs.bans.bans_are_shown_after_passes.Goals as goal

pub returns : goal.returns
returns c = shown_at_end c.action_is_one_more.ensures c.chosen_is_of_least_class.ensures
