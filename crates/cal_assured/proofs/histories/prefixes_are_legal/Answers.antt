use Rattle.cal_assured.proofs.Legality.{prefixes}
use Rattle.cal_assured.proofs.histories.prefixes_are_legal.Goals as goal

pub returns : goal.returns
returns c = prefixes
