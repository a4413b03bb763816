use Rattle.cal_load.proofs.Common.{◌≢◌, take, Each}
use Rattle.cal_load.proofs.made.ArrivalPlan.load_of.Given as goal

-- none of those that were passed
abbrev pub invariant-loop-place : goal.invariant-loop-place
invariant-loop-place l = Each (λ load. load.task ≢ l.task) (take l.place l.self.loads.now)
