use Rattle.cal_laws.proofs.BanLemmas.Emptied.{none_held_at_end}
use Rattle.cal_laws.proofs.bans.banned_are_empty_after_passes.Goals as goal

pub returns : goal.returns
returns c = λ table history ok legal. none_held_at_end c.action_is_one_more.ensures c.chosen_is_of_least_class.ensures table history legal
