use Rattle.cal_kthread.proofs.Common.{◌≡◌, length, Links}
use Rattle.cal_kthread.proofs.TeamLemmas.Rounds.{Round}
use Rattle.cal_kthread.proofs.team.linking.link_round.Given as goal

abbrev pub invariant-loop-owner : goal.invariant-loop-owner
invariant-loop-owner l = Links l.first l.count l.initial.threads l.threads × (length l.threads ≡ length l.initial.threads) × Round l.first l.count l.distance l.owner l.threads
