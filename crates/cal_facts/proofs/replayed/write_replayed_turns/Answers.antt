use Rattle.cal_facts.proofs.Common.{List, ap, subst, Appends, PassEntry, WorkTurn, text_of_turns}
use Rattle.cal_tables.specs.Replayed.{IsReplayGiven}
use Rattle.cal_facts.proofs.replayed.write_replayed_turns.Goals as goal

pub returns-in-Ok-clause-exact : goal.returns-in-Ok-clause-exact
returns-in-Ok-clause-exact g c =
    let config = c.in_ok-read.read.config in
    let arrivals = c.in_ok-read.read.arrivals in
    let works = c.in_ok-works.works.items in
    let of = c.in_ok-works.ensures in
    record {
      written = text_of_turns config works;
      is_text = record {
        run = record { table = config; arrivals = arrivals };
        asked = c.in_ok-read.ensures.read.run;
        history = c.in_ok-read.read.history.items;
        told = c.in_ok-read.ensures.read.told;
        given = of.given;
        journals = of.journals;
        left = of.left;
        replay = subst (λ (h : List PassEntry). IsReplayGiven c.args.plan config arrivals of.given h of.journals of.left) c.as_slice.ensures.value of.replay;
        holds = ap (λ (l : List WorkTurn). text_of_turns config l) of.are;
      };
      appended = subst
          (λ (l : List WorkTurn). Appends (g.W.Write.contents c.args.writer.now) (g.W.Write.contents c.write_turn_rows.new.writer) (text_of_turns config l))
          c.as_slice-2.ensures.value c.in-Ok.ensures;
    }
