use Rattle.cal_assured.proofs.PassLaws.{no_more_taken}
use Rattle.cal_assured.proofs.passes.no_more_is_taken_than_is_lacked.Goals as goal

pub returns : goal.returns
returns c = no_more_taken
