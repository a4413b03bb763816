use Rattle.cal_facts.proofs.Common.{List, refl, subst, PassEntry}
use Rattle.cal_tables.specs.Replayed.{IsReplayGiven}
use Rattle.cal_facts.proofs.replayed.replayed_history.Goals as goal

pub returns-clause-replay : goal.returns-clause-replay
returns-clause-replay c =
    let config = c.in_ok-read.read.config in
    let arrivals = c.in_ok-read.read.arrivals in
    let on = c.in_ok-see_replayed.ensures in
    record {
      run = record { table = config; arrivals = arrivals };
      asked = c.in_ok-read.ensures.read.run;
      history = c.in_ok-read.read.history.items;
      told = c.in_ok-read.ensures.read.told;
      given = on.given;
      journals = on.journals;
      left = on.left;
      replay = subst (λ (h : List PassEntry). IsReplayGiven c.args.plan config arrivals on.given h on.journals on.left) c.as_slice.ensures.value on.replay;
      holds = (refl, refl);
    }
