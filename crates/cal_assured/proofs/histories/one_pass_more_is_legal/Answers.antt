use Rattle.cal_assured.proofs.Legality.{one_more}
use Rattle.cal_assured.proofs.histories.one_pass_more_is_legal.Goals as goal

pub returns : goal.returns
returns c = one_more
