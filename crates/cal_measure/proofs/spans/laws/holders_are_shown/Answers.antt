use Rattle.cal_measure.proofs.SpanLemmas.HoldersKept.{holders-shown}
use Rattle.cal_measure.proofs.spans.laws.holders_are_shown.Goals as goal

pub returns : goal.returns
returns c = holders-shown
