use Rattle.cal_run.proofs.Common.{List, length, subst, arith, IsLegalBy, page_at, pass_at_by}
use Rattle.std.proofs.Math.Seq.{take-length}
use Rattle.cal_world.specs.Projections.{history_in}
use Rattle.cal_world.specs.declared.event.Event.{Event}
use Rattle.cal_policy.specs.History.Found.{looks_at}
use Rattle.cal_run.proofs.OutcomeLemmas.Fitting.{fitting_never_fall, fitting_published}
use Rattle.cal_run.proofs.outcome.headline.headline_of_runs_by.Goals as goal

pub returns : goal.returns
returns c = λ policy table arrivals outcome ok run.
    let events = outcome.events in
    let legal = run.events.legal in
    let safe = c.legal_lists_are_safe_by.ensures policy table events ok legal in
    let whole_history : IsLegalBy policy table outcome.history =
    subst (IsLegalBy policy table) run.events.decided
    (subst (λ (es : List Event). IsLegalBy policy table (history_in es)) (take-length events) (c.histories_are_legal_by.ensures policy table events ok legal (length events) (omega arith))) in
    record {
      events = legal;
      whole = record { passes = run.events.decided; threads = run.events.done; watches = run.events.watches };
      history = whole_history;
      by_policy = pass_at_by policy table outcome.history whole_history;
      published = λ k i number rec at. fitting_published (page_at outcome.journals k) 0 (looks_at outcome.history k) i number rec (run.looks k) at;
      never_older = λ k. fitting_never_fall (page_at outcome.journals k) 0 (looks_at outcome.history k) (run.looks k);
      in_order = run.taken;
      at_every_point = λ n le. record {
        one_each = c.no_core_runs_two.ensures.safe table events ok safe n le;
        by_last_run = c.threads_run_by_their_last_run.ensures.safe table events ok safe n le;
        limits = c.tasks_run_within_limits.ensures.safe table events ok safe n le;
        taken = c.taken_were_sent.ensures.safe table events ok safe n le;
        causes = c.revocations_in_events_have_cause_by.ensures policy table events ok legal n le;
        guarantees = c.revocations_in_events_leave_guarantees.ensures.safe table events ok safe n le;
      };
    }
