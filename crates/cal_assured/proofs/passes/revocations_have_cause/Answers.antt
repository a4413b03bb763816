use Rattle.cal_assured.proofs.PassLaws.{have_cause}
use Rattle.cal_assured.proofs.passes.revocations_have_cause.Goals as goal

pub returns : goal.returns
returns c = have_cause
