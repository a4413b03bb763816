use Rattle.cal_policy.proofs.AssuredLemmas.TurnOrder.{turns_in_order}
use Rattle.cal_assured.proofs.order.turns_are_in_order.Goals as goal

pub returns : goal.returns
returns c = turns_in_order
