use Rattle.cal_engine.proofs.Common.{◌≡◌, ℕ, List, length, IfOk-weaker, Policy, IsRunBy, RunInput, IsTextOfRun, RunAnswer}
use Rattle.cal_machine.specs.declared.request.Request.{Request}
use Rattle.cal_run.specs.declared.outcome.Outcome.{Outcome}
use Rattle.cal_trace.specs.Report.Summary.{summary_text}
use Rattle.cal_engine.specs.declared.jobs.running.RunAnswer.TheVariants.{Summary}
use Rattle.cal_engine.proofs.jobs.running.lockstep_on.Goals as goal

-- a summary by the journals of a run's outcome and what was left of it is that of the outcome
summary_of_run : (policy : Policy) (answer : RunAnswer) (input : RunInput) (outcome : Outcome) (left : List (List Request)) (text : List ℕ) → answer ≡ Summary
    → IsRunBy policy input.table input.arrivals outcome → outcome.left ≡ left
    → text ≡ summary_text (length input.arrivals.passes) (length input.arrivals.turns) outcome.journals left → IsTextOfRun policy answer input text
summary_of_run policy answer input outcome left text is run same made = record { outcome = outcome; run = run; made = rw (is, same) made }

pub returns-in_ok-end-in-Summary-clause-text : goal.returns-in_ok-end-in-Summary-clause-text
returns-in_ok-end-in-Summary-clause-text c =
    let input : RunInput = record { table = c.args.accepted.now.config.now; arrivals = c.args.accepted.now.arrivals.now } in
    let of = c.in_ok-end-in-Summary.ensures.run in
    IfOk-weaker c.tallied_summary.result _ _ (λ text made. summary_of_run c.args.accepted.now.policy c.args.answer input of.outcome c.in_ok-end-in-Summary.end.left text.items c.in-Summary.is of.run of.left made)
    (c.tallied_summary.ensures.text of.outcome.journals of.tallies)
