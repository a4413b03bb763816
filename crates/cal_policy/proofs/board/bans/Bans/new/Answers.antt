use Rattle.cal_policy.proofs.Common.{None, Option, BannedFor}
use Rattle.cal_policy.proofs.ListLemmas.OneMore.{get_or_same}
use Rattle.cal_policy.proofs.board.bans.Bans.new.Goals as goal

pub returns-clause-agree : goal.returns-clause-agree
returns-clause-agree c = record { bans = λ k lt. rw c.no_bans.ensures (get_or_same 128 k None) }

pub returns-clause-sound : goal.returns-clause-sound
returns-clause-sound c = λ threads. record { bans = λ k. rw (c.no_bans.ensures, get_or_same {X = Option BannedFor} 128 k None) tt }
