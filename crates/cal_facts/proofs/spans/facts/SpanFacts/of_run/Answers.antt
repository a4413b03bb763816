use Rattle.cal_facts.proofs.Common.{◌∙◌, ℕ, List, map, ap, sym, moves_of, spans_of, on_given, GivenPass, bans_of}
use Rattle.cal_tables.proofs.PassClocks.{clocks_given}
use Rattle.cal_facts.proofs.spans.facts.SpanFacts.of_run.Goals as goal

pub returns-clause-facts : goal.returns-clause-facts
returns-clause-facts c =
    let given = c.collected_by.new.given in
    let run = c.in_ok-collected_by.ensures.run c.args.arrivals c.in_ok-given.ensures.planned in
    let h = run.outcome.history in
    let cores = c.cores.ensures.value ∙ c.machine.ensures.machine in
    let made = on_given c.args.plan c.args.policy c.args.config.now c.args.arrivals given run.outcome run.run in
    record {
      given = given;
      outcome = run.outcome;
      run = run.run;
      are = record {
        spans = c.in_ok-spans.ensures.spans (moves_of h) run.collected ∙ ap (λ (n : ℕ). spans_of n h) cores;
        bans = c.in_ok-spans.ensures.bans (moves_of h) run.collected ∙ ap (λ (n : ℕ). bans_of n h) cores;
        clocks = c.in_ok-clocks.ensures ∙ ap (λ (l : List GivenPass). map (λ (pass : GivenPass). pass.now) l) (c.as_slice.ensures ∙ sym made.passes)
            ∙ clocks_given h;
      };
    }
