use Rattle.cal_measure.proofs.SpanLemmas.Showing.{shown-stays}
use Rattle.cal_measure.proofs.spans.laws.shown_are_stays.Goals as goal

pub returns : goal.returns
returns c = shown-stays
