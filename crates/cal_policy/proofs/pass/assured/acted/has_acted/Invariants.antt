use Rattle.cal_policy.proofs.Common.{◌≡◌, false, take, has_acted}
use Rattle.cal_policy.proofs.pass.assured.acted.has_acted.Given as goal

abbrev pub invariant-loop-action : goal.invariant-loop-action
invariant-loop-action l = has_acted l.config (take l.action-index l.acts) l.task ≡ false
