use Rattle.cal_facts.proofs.Common.{◌≡◌, Err, List, rules, subst, Appends, run_input_of, failed_by, asked_run, text_of_turns, WorkTurn}
use Rattle.cal_facts.proofs.TurnLemmas.{turns_may}
use Rattle.cal_facts.proofs.turns.write_turns.Goals as goal

pub returns-in_err-config-clause-exact : goal.returns-in_err-config-clause-exact
returns-in_err-config-clause-exact g c =
    let same : c.from_residual.result ≡ Err c.in_err-config.field-0.0 = search rules in
    rw same (failed_by c.args.plan c.in_err-config.field-0.0 (asked_run (run_input_of c.args.input.now)) c.in_err-config.ensures.fault)

pub returns-in-Ok-clause-exact : goal.returns-in-Ok-clause-exact
returns-in-Ok-clause-exact g c = record {
  written = text_of_turns c.in_ok-config.config c.in_ok-config.works.items;
  is_text = c.in_ok-config.ensures.turns;
  appended = subst
      (λ (l : List WorkTurn). Appends (g.W.Write.contents c.args.writer.now) (g.W.Write.contents c.write_turn_rows.new.writer) (text_of_turns c.in_ok-config.config l))
      c.as_slice.ensures.value c.in-Ok.ensures;
}

pub returns-clause-exact : goal.returns-clause-exact
returns-clause-exact g c =
    turns_may c.args.plan c.args.policy (run_input_of c.args.input.now) (text_of_turns c.in_ok-config.config c.in_ok-config.works.items) c.in_ok-config.ensures.turns
