use Rattle.cal_run.proofs.Common.{◌≡◌, ℕ, List, [], length, max, refl, replicate, subst, sym, ◌∙◌, arith, length-map, Entry, Table, threads_of_table, PassEntry, Policy, IsRunEndBy, outcome_of, then_rounds, filled, journals_of, seat_of, RunEnd, Worker}
use Rattle.cal_run.proofs.CollectorLemmas.Opened.{all_empty, no_pass_yet, no_turn_yet}
use Rattle.cal_run.proofs.RoundsLemmas.FirstPasses.{first_alike}
use Rattle.cal_run.proofs.RoundsLemmas.Rounds.{unwatched_end}
use Rattle.cal_run.proofs.one_thread.lockstep_collected_by.Goals as goal

pub make_rounds-requires-clause-suits : goal.make_rounds-requires-clause-suits
make_rounds-requires-clause-suits g c =
    let P : Table → Type 0 = λ t. g.C.Collector.suits c.args.collector.now t in
    subst P (sym c.in-Ok.ensures.parts.together.same_table) c.requires.suits

pub end_run-requires-clause-made : goal.end_run-requires-clause-made
end_run-requires-clause-made g c =
    let arrivals = c.args.arrivals.now in
    let made = c.in_ok-make_rounds.ensures in
    let opened = c.in-Ok.ensures in
    unwatched_end _ c.args.config.now arrivals c.make_rounds.new.parts opened.parts.together.same_table (made.most ∙ opened.most) made.made

-- before the first round nothing was made
pub returns-clause-run : goal.returns-clause-run
returns-clause-run g c =
    let arrivals = c.args.arrivals.now in
    let opened = c.in-Ok.parts in
    let are = c.in-Ok.ensures.parts in
    let made = c.make_rounds.new.parts in
    let n = threads_of_table c.args.config.now in
    let journals = journals_of opened.workers.items in
    let team = are.together.threads in
    let seats = length-map opened.workers.items (λ (w : Worker). seat_of w.thread) in
    let threads = length-map opened.workers.items (λ (w : Worker). w.thread.journal) in
    let many : length journals ≡ n = omega (arith, threads, team, seats) in
    let nothing : replicate n [] ≡ journals = all_empty journals n many (no_turn_yet arrivals opened.workers.items are.turns) in
    let P : List (List Entry) → Type 0 = λ l. g.C.Collector.holds c.args.collector.now [] l in
    let Q : List PassEntry → Type 0 = λ h. g.C.Collector.holds c.args.collector.now h journals in
    let held : Q opened.scheduler.history = subst Q (sym (no_pass_yet arrivals opened.scheduler are.passes)) (subst P nothing c.requires.opened) in
    let end : RunEnd = record { history = made.scheduler.history; journals = journals_of made.workers.items; left = c.in_ok-left.field-0.left; watched = filled c.args.config.now arrivals c.in_ok-left.field-0.watched } in
    let R : Policy → Type 0 = λ p. IsRunEndBy p c.args.config.now arrivals end in
    record {
      outcome = outcome_of end;
      run = subst R (c.in_ok-make_rounds.ensures.policy ∙ c.in-Ok.ensures.policy) c.in_ok-left.ensures.run;
      collected = c.in_ok-make_rounds.ensures.collected held;
      left = refl;
    }

pub returns-clause-wrote : goal.returns-clause-wrote
returns-clause-wrote g c = λ unwritten.
    let arrivals = c.args.arrivals.now in
    let opened = c.in-Ok.parts in
    let made = c.make_rounds.new.parts in
    let W : List PassEntry → Type 0 = λ h. g.C.Collector.wrote c.args.collector.now c.args.collector.now h in
    let nothing : W opened.scheduler.history = subst W (sym (no_pass_yet arrivals opened.scheduler c.in-Ok.ensures.parts.passes)) unwritten in
    let end : RunEnd = record { history = made.scheduler.history; journals = journals_of made.workers.items; left = c.in_ok-left.field-0.left; watched = filled c.args.config.now arrivals c.in_ok-left.field-0.watched } in
    let R : Policy → Type 0 = λ p. IsRunEndBy p c.args.config.now arrivals end in
    record {
      outcome = outcome_of end;
      run = subst R (c.in_ok-make_rounds.ensures.policy ∙ c.in-Ok.ensures.policy) c.in_ok-left.ensures.run;
      collected = (
        first_alike _ _ _ _ arrivals made.scheduler.history c.in-Ok.ensures.policy c.in-Ok.ensures.parts.together.same_table c.in_ok-make_rounds.ensures.first,
        c.in_ok-make_rounds.ensures.wrote c.args.collector.now nothing,
      );
      left = refl;
    }

pub returns-clause-suits : goal.returns-clause-suits
returns-clause-suits g c =
    let P : Table → Type 0 = λ t. g.C.Collector.suits c.make_rounds.new.collector t in
    subst P c.in-Ok.ensures.parts.together.same_table c.in_ok-make_rounds.ensures.suits

-- the threads are those of the table
pub returns-clause-ordered : goal.returns-clause-ordered
returns-clause-ordered g c = λ met.
    let arrivals = c.args.arrivals.now in
    let workers = c.in-Ok.parts.workers.items in
    let team = c.in-Ok.ensures.parts.together.threads in
    let seats = length-map workers (λ (w : Worker). seat_of w.thread) in
    let many : length workers ≡ threads_of_table c.args.config.now = omega (arith, team, seats) in
    let passes = length arrivals.passes in
    let turns = length arrivals.turns in
    let P : ℕ → Type 0 = λ n. g.C.Collector.met c.make_rounds.new.collector (then_rounds passes turns n (max passes turns) []) in
    subst P many (c.in_ok-make_rounds.ensures.ordered [] met)
