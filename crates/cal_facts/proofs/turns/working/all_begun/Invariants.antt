use Rattle.cal_facts.proofs.Common.{◌≡◌, take, all_served}
use Rattle.cal_facts.proofs.turns.working.all_begun.Given as goal

abbrev pub invariant-loop-turn : goal.invariant-loop-turn
invariant-loop-turn l = l.requests.items ≡ all_served (take l.turn-index l.turns)
