use Rattle.cal_measure.proofs.SpanLemmas.Showing.{spans-apart}
use Rattle.cal_measure.proofs.spans.laws.spans_are_apart.Goals as goal

pub returns : goal.returns
returns c = spans-apart
