use Rattle.cal_kthread.proofs.EndLemmas.OnePlace.{never-is-nowhere}
use Rattle.cal_kthread.proofs.laws.never_is_nowhere.Goals as goal

pub returns : goal.returns
returns c = never-is-nowhere
