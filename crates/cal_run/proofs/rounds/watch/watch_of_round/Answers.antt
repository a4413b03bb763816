use Rattle.cal_run.proofs.RoundsLemmas.Watch.{rounds_after, watch_stays}
use Rattle.cal_run.proofs.rounds.watch.watch_of_round.Goals as goal

pub returns-clause-rounds : goal.returns-clause-rounds
returns-clause-rounds c = rounds_after c.round.result c.args.watch.now c.round.new.self c.requires.few c.round.ensures.exactly c.round.ensures.round

pub returns-clause-seat : goal.returns-clause-seat
returns-clause-seat c = watch_stays c.round.result c.args.watch.now c.round.new.self c.round.ensures.round
