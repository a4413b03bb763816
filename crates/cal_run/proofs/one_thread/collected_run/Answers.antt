use Rattle.cal_run.proofs.Common.{◌≡◌, length, sym, ◌∙◌, arith, length-map, rounds_of, journals_of, Worker}
use Rattle.cal_run.proofs.CollectorLemmas.Opened.{no_pass_yet, no_turn_yet, same_empty}
use Rattle.cal_run.proofs.RoundsLemmas.Rounds.{after_all_rounds}
use Rattle.cal_run.proofs.one_thread.collected_run.Goals as goal

pub returns-clause-parts : goal.returns-clause-parts
returns-clause-parts c =
    let arrivals = c.args.arrivals.now in
    let made = c.in_ok-make_rounds.ensures in
    let opened = c.in_ok-parts.ensures in
    after_all_rounds _ c.args.config.now arrivals (rounds_of arrivals) c.make_rounds.new.parts opened.parts.together.same_table (made.most ∙ opened.most) (omega arith) made.made

-- before the first round nothing was made and nothing collected
pub returns-clause-collected : goal.returns-clause-collected
returns-clause-collected c =
    let arrivals = c.args.arrivals.now in
    let opened = c.in_ok-parts.parts in
    let are = c.in_ok-parts.ensures.parts in
    let fresh = c.in_ok-collection.ensures in
    let collection = c.in_ok-collection.collection in
    let history : collection.history.items ≡ opened.scheduler.history = fresh.history ∙ sym (no_pass_yet arrivals opened.scheduler are.passes) in
    let threads = length-map opened.workers.items (λ (w : Worker). w.thread.journal) in
    let own = opened.workers.ok.0 in
    let count = fresh.count in
    let size = c.len.ensures in
    let many : length collection.journals.items ≡ length (journals_of opened.workers.items) = omega (arith, count, size, own, threads) in
    let journals : collection.journals.items ≡ journals_of opened.workers.items =
    same_empty collection.journals.items (journals_of opened.workers.items) many fresh.empty (no_turn_yet arrivals opened.workers.items are.turns) in
    let held = c.in_ok-make_rounds.ensures.collected (history, journals) in
    record {
      history = c.in_ok-collected.ensures.history ∙ held.0;
      journals = c.in_ok-collected.ensures.journals ∙ held.1;
    }
