use Rattle.cal_facts.proofs.replayed.see_replayed.Goals as goal

pub returns : goal.returns
returns c =
    let run = c.in_ok-replayed_by.ensures.replay in record {
      given = c.replayed_by.new.given;
      journals = run.journals;
      left = c.in_ok-replayed_by.field-0;
      replay = record {
        planned = c.in_ok-given.given;
        by_plan = c.in_ok-given.ensures.planned;
        back = c.in_ok-replayed_by.ensures.given;
        replay = run.replay;
      };
    }
