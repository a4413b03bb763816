use Rattle.cal_measure.proofs.SpanLemmas.Showing.{stays-shown}
use Rattle.cal_measure.proofs.spans.laws.stays_are_shown.Goals as goal

pub returns : goal.returns
returns c = stays-shown
