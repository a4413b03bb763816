use Rattle.cal_paced.proofs.PaceOne.{neutral-shares}
use Rattle.cal_paced.proofs.laws.neutral_shares_are_whole.Goals as goal

pub returns : goal.returns
returns c = neutral-shares
