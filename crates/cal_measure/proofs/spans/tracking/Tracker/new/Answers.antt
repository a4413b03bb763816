use Rattle.cal_measure.proofs.Common.{None, get_or_same}
use Rattle.cal_measure.proofs.spans.tracking.Tracker.new.Goals as goal

pub returns : goal.returns
returns c = record { same = λ k lt. rw c.no_stays.ensures (get_or_same 256 k None) }
