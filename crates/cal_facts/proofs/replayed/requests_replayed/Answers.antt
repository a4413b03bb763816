use Rattle.cal_facts.proofs.Common.{List, refl, subst, PassEntry}
use Rattle.cal_tables.specs.Replayed.{IsReplayGiven}
use Rattle.cal_facts.proofs.replayed.requests_replayed.Goals as goal

pub returns : goal.returns
returns c =
    let config = c.in_ok-read.read.config in
    let arrivals = c.in_ok-read.read.arrivals in
    let of = c.in_ok-served.ensures arrivals c.in_ok-given.ensures.planned in
    let given = c.served_of_replay.new.given in
    record {
      run = record { table = config; arrivals = arrivals };
      asked = c.in_ok-read.ensures.read.run;
      history = c.in_ok-read.read.history.items;
      told = c.in_ok-read.ensures.read.told;
      given = given;
      journals = of.journals;
      left = of.left;
      replay = subst (λ (h : List PassEntry). IsReplayGiven c.args.asked.plan config arrivals given h of.journals of.left) c.as_slice.ensures.value of.replay;
      holds = record { told = c.in_ok-told.told; counted = c.in_ok-told.ensures.counted; holds = (refl, refl, c.in_ok-came.ensures, of.are) };
    }
