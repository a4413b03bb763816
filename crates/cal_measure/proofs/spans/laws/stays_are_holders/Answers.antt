use Rattle.cal_measure.proofs.SpanLemmas.HoldersKept.{stays-holders}
use Rattle.cal_measure.proofs.spans.laws.stays_are_holders.Goals as goal

pub returns : goal.returns
returns c = stays-holders
