use Rattle.cal_assured.proofs.PassLaws.{not_twice}
use Rattle.cal_assured.proofs.passes.no_core_is_revoked_twice.Goals as goal

pub returns : goal.returns
returns c = not_twice
