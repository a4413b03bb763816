use Rattle.cal_world.proofs.ScheduleLemmas.Safety.{legal_history}
use Rattle.cal_world.proofs.schedules.histories_are_legal_by.Goals as goal

pub returns : goal.returns
returns c = λ policy table events ok is n le. legal_history policy table events is n le
