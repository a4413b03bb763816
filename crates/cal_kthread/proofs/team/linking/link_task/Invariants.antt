use Rattle.cal_kthread.proofs.Common.{◌≡◌, ◌-◌, ◌≤◌, length, Links, IsLinked}
use Rattle.cal_kthread.proofs.team.linking.link_task.Given as goal

abbrev pub invariant-loop-distance : goal.invariant-loop-distance
invariant-loop-distance l = Links l.first l.count l.initial.threads l.threads × (length l.threads ≡ length l.initial.threads) × (1 ≤ l.distance) × (l.distance ≤ l.count) × IsLinked l.first l.count (l.distance - 1) l.threads
