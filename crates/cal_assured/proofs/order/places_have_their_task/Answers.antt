use Rattle.cal_policy.proofs.AssuredLemmas.TurnOrder.{places_taken}
use Rattle.cal_assured.proofs.order.places_have_their_task.Goals as goal

pub returns : goal.returns
returns c = places_taken
