use Rattle.cal_measure.proofs.SpanLemmas.HoldersKept.{shown-holders}
use Rattle.cal_measure.proofs.spans.laws.shown_are_holders.Goals as goal

pub returns : goal.returns
returns c = shown-holders
