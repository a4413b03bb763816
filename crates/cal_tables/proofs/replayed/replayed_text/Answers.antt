use Rattle.std.proofs.Common.{List, subst}
use Rattle.cal_policy.specs.declared.history.entry.PassEntry.{PassEntry}
use Rattle.cal_replay.specs.Replays.{IsReplay}
use Rattle.cal_tables.proofs.replayed.replayed_text.Goals as goal

pub returns : goal.returns
returns c =
    let read = c.in_ok-read.read in
    let config = read.config in
    let given = c.replayed_numbers.new.given in
    let run = c.in_ok-numbers.ensures.numbers in
    record {
      run = record { table = config; arrivals = read.arrivals };
      asked = c.in_ok-read.ensures.read.run;
      history = read.history.items;
      told = c.in_ok-read.ensures.read.told;
      given = given;
      journals = run.journals;
      left = run.left;
      replay = record {
        planned = c.in_ok-given.given;
        by_plan = c.in_ok-given.ensures.planned;
        back = c.in_ok-numbers.ensures.given;
        replay = subst (λ (h : List PassEntry). IsReplay config given h run.journals run.left) c.as_slice-passes.ensures.value run.replay;
      };
      holds = record { told = c.in_ok-told.told; counted = c.in_ok-told.ensures.counted };
    }
