use Rattle.cal_kthread.proofs.JournalLemmas.Parts.{others-change-nothing}
use Rattle.cal_kthread.proofs.laws.others_change_nothing.Goals as goal

pub returns : goal.returns
returns c = others-change-nothing
