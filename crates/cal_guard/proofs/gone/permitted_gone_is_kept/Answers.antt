use Rattle.cal_guard.proofs.GoneLemmas.{gone_kept}
use Rattle.cal_guard.proofs.gone.permitted_gone_is_kept.Goals as goal

pub returns : goal.returns
returns c = gone_kept c.permitted_is_orderly.ensures
