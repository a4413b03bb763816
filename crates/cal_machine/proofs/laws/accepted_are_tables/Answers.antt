use Rattle.cal_machine.proofs.Accepted.{accepted_text}
use Rattle.cal_machine.proofs.laws.accepted_are_tables.Goals as goal

pub returns : goal.returns
returns c = accepted_text
