use Rattle.cal_engine.proofs.Common.{◌≡◌, List, Err, rules, Run, PassEntry, history_text, decided_run_by, HasRows}
use Rattle.cal_engine.proofs.Reporting.{no_run, text_kept}
use Rattle.cal_engine.proofs.jobs.deciding.decided_history_by.Goals as goal

pub returns-in_err-decide_input : goal.returns-in_err-decide_input
returns-in_err-decide_input c =
    let same : c.from_residual-in_err-decide_input.result ≡ Err c.in_err-decide_input.field-0.0 = search rules in
    rw same (no_run (λ (run : Run). history_text run.history) (decided_run_by c.args.policy c.args.input.now) c.in_err-decide_input.field-0.0 c.in_err-decide_input.ensures.fault)

pub returns : goal.returns
returns c =
    let keeps : List PassEntry → Type 0 = λ h. HasRows h c.decide_input.new.keeper in
    text_kept (λ text. text.items) c.end.result (λ (run : Run). history_text run.history) keeps c.in_ok-decide_input.field-0.0 c.in_ok-decide_input.field-0.1 (decided_run_by c.args.policy c.args.input.now)
    c.in_ok-decide_input.ensures.decided (λ run has. c.end.ensures.text run.history has.decided.kept) c.end.ensures.kind
