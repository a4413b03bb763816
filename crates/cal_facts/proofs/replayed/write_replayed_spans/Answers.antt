use Rattle.cal_facts.proofs.Common.{List, subst, PassEntry, AreSpanFacts, text_of_facts}
use Rattle.cal_facts.proofs.ReplayLemmas.{spans_replayed}
use Rattle.cal_facts.proofs.replayed.write_replayed_spans.Goals as goal

pub returns-in-Ok-clause-exact : goal.returns-in-Ok-clause-exact
returns-in-Ok-clause-exact g c =
    let config = c.in_ok-made.made.config in
    let facts = c.in_ok-facts.facts in
    let is = c.in_ok-made.made in
    record {
      written = text_of_facts config facts;
      is_text = spans_replayed c.args.plan c.args.input.now c.args.history.now is facts c.in_ok-made.ensures.replay
          (subst (λ (h : List PassEntry). AreSpanFacts config.cores h facts) c.as_slice.ensures.value c.in_ok-facts.ensures);
      appended = c.in-Ok.ensures;
    }
