use Rattle.cal_measure.proofs.Common.{None, get_or_same}
use Rattle.cal_measure.proofs.spans.bans.BanTracker.new.Goals as goal

pub returns : goal.returns
returns c = record { same = λ k lt. rw c.no_bans.ensures (get_or_same 256 k None) }
