use Rattle.cal_kthread.proofs.JournalLemmas.Parts.{record-shows-taken}
use Rattle.cal_kthread.proofs.laws.record_shows_taken.Goals as goal

pub returns : goal.returns
returns c = record-shows-taken
