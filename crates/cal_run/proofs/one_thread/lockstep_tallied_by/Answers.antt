use Rattle.cal_run.proofs.Common.{◌≡◌, length, refl, subst, ◌∙◌, arith, AllZip, length-map, IsTallyOf, Policy, IsRunEndBy, outcome_of, filled, journals_of, RunEnd, Worker}
use Rattle.cal_run.proofs.CollectorLemmas.Opened.{no_turn_yet, none_counted}
use Rattle.cal_run.proofs.RoundsLemmas.Rounds.{unwatched_end}
use Rattle.cal_run.proofs.one_thread.lockstep_tallied_by.Goals as goal

pub end_run-requires-clause-made : goal.end_run-requires-clause-made
end_run-requires-clause-made c =
    let arrivals = c.args.arrivals.now in
    let made = c.in_ok-make_rounds.ensures in
    let opened = c.in_ok-parts.ensures in
    unwatched_end _ c.args.config.now arrivals c.make_rounds.new.parts opened.parts.together.same_table (made.most ∙ opened.most) made.made

-- before the first round nothing is counted
pub returns-clause-run : goal.returns-clause-run
returns-clause-run c =
    let arrivals = c.args.arrivals.now in
    let opened = c.in_ok-parts.parts in
    let are = c.in_ok-parts.ensures.parts in
    let made = c.make_rounds.new.parts in
    let journals = journals_of opened.workers.items in
    let threads = length-map opened.workers.items (λ (w : Worker). w.thread.journal) in
    let own = opened.workers.ok.0 in
    let size = c.len.ensures in
    let many : length journals ≡ c.len.result = omega (arith, size, own, threads) in
    let fresh : AllZip IsTallyOf journals c.in_ok-tallies.tallies.tallies.items = rw c.in_ok-tallies.ensures (none_counted journals c.len.result many (no_turn_yet arrivals opened.workers.items are.turns)) in
    let held : AllZip IsTallyOf (journals_of made.workers.items) c.make_rounds.new.collector.tallies.items = c.in_ok-make_rounds.ensures.collected fresh in
    let end : RunEnd = record { history = made.scheduler.history; journals = journals_of made.workers.items; left = c.in_ok-left.field-0.left; watched = filled c.args.config.now arrivals c.in_ok-left.field-0.watched } in
    let R : Policy → Type 0 = λ p. IsRunEndBy p c.args.config.now arrivals end in
    record {
      outcome = outcome_of end;
      run = subst R (c.in_ok-make_rounds.ensures.policy ∙ c.in_ok-parts.ensures.policy) c.in_ok-left.ensures.run;
      tallies = rw c.new-2.ensures held;
      left = refl;
    }
