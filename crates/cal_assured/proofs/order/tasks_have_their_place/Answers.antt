use Rattle.cal_policy.proofs.AssuredLemmas.TurnOrder.{tasks_placed}
use Rattle.cal_assured.proofs.order.tasks_have_their_place.Goals as goal

pub returns : goal.returns
returns c = tasks_placed
