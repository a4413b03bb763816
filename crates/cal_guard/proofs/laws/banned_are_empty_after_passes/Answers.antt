use Rattle.cal_guard.proofs.Emptying.{mended}
use Rattle.cal_guard.proofs.laws.banned_are_empty_after_passes.Goals as goal

pub returns : goal.returns
returns c = λ table history permitted. (mended table history permitted).emptied
