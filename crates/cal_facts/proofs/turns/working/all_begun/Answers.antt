use Rattle.cal_facts.proofs.Common.{[], each_grown, served_in}
use Rattle.cal_facts.proofs.turns.working.all_begun.Goals as goal

pub loop-turn-preserved : goal.loop-turn-preserved
loop-turn-preserved c =
    each_grown served_in [] c.args.turns.now c.loop-turn.turn-index _ c.loop-turn.requests.items _ c.loop-turn-test.true c.loop-turn.invariant c.in_ok-put_one.ensures
