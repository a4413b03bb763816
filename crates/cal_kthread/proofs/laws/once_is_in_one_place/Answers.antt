use Rattle.cal_kthread.proofs.EndLemmas.OnePlace.{once-is-in-one-place}
use Rattle.cal_kthread.proofs.laws.once_is_in_one_place.Goals as goal

pub returns : goal.returns
returns c = once-is-in-one-place
