use Rattle.cal_paced.proofs.Common.{◌≡◌, ◌*◌, ℕ, List, [], length, refl, replicate, subst, sym, ap, ◌∙◌, arith, length-map, Entry, Table, PassEntry, Policy, IsRunEndBy, outcome_of, filled, journals_of, seat_of, Worker, then_rounds}
use Rattle.cal_machine.specs.TableTasks.{threads_of_table}
use Rattle.cal_run.specs.declared.outcome.RunEnd.{RunEnd}
use Rattle.cal_run.proofs.CollectorLemmas.Opened.{all_empty, no_pass_yet, no_turn_yet}
use Rattle.cal_paced.proofs.Differing.{table-still}
use Rattle.cal_paced.proofs.Ending.{all-made, may-be-ended, paced-run}
use Rattle.cal_paced.proofs.run.paced_collected_by.Goals as goal

pub make_rounds-requires-clause-suits : goal.make_rounds-requires-clause-suits
make_rounds-requires-clause-suits g c =
    let P : Table → Type 0 = λ t. g.C.Collector.suits c.args.collector.now t in
    subst P (sym c.in-Ok.ensures.parts.together.same_table) c.requires.suits

pub make_rounds-requires-clause-few : goal.make_rounds-requires-clause-few
make_rounds-requires-clause-few g c =
    let few = c.limits.ensures.threads in
    let team = c.in-Ok.ensures.parts.together.threads in
    let seats = length-map c.in-Ok.parts.workers.items (λ (w : Worker). seat_of w.thread) in omega (arith, few, team, seats)

pub end_run-requires-clause-fits : goal.end_run-requires-clause-fits
end_run-requires-clause-fits g c = table-still c.args.config.now 0 c.args.given.now c.make_rounds.new.given c.make_rounds.ensures.given c.requires.fits

pub end_run-requires-clause-made : goal.end_run-requires-clause-made
end_run-requires-clause-made g c =
    let made = c.in_ok-make_rounds.ensures in
    let opened = c.in-Ok.ensures in
    let given = c.make_rounds.new.given in
    let differ = c.make_rounds.ensures.given in
    let many = differ.many ∙ c.requires.many ∙ ap (λ (l : List ℕ). c.args.plan.now.pace * length l) (sym differ.turns) in
    let most = made.most ∙ opened.most in
    may-be-ended c.args.config.now given c.make_rounds.new.parts
    (all-made c.args.plan.now c.args.config.now _ given c.make_rounds.new.parts c.make_rounds.new.keeping.saved.items c.make_rounds.new.keeping.misses 0 many opened.parts.together.same_table (omega (arith, most)) made.made)

-- before the first round nothing was made
pub returns-clause-run : goal.returns-clause-run
returns-clause-run g c arrivals paced =
    let table = c.args.config.now in
    let is = c.make_rounds.new.given in
    let opened = c.in-Ok.parts in
    let are = c.in-Ok.ensures.parts in
    let made = c.make_rounds.new.parts in
    let rounds = c.in_ok-make_rounds.ensures in
    let n = threads_of_table table in
    let journals = journals_of opened.workers.items in
    let team = are.together.threads in
    let seats = length-map opened.workers.items (λ (w : Worker). seat_of w.thread) in
    let threads = length-map opened.workers.items (λ (w : Worker). w.thread.journal) in
    let many : length journals ≡ n = omega (arith, threads, team, seats) in
    let nothing : replicate n [] ≡ journals = all_empty journals n many (no_turn_yet c.args.given.now opened.workers.items are.turns) in
    let P : List (List Entry) → Type 0 = λ l. g.C.Collector.holds c.args.collector.now [] l in
    let Q : List PassEntry → Type 0 = λ h. g.C.Collector.holds c.args.collector.now h journals in
    let held : Q opened.scheduler.history = subst Q (sym (no_pass_yet c.args.given.now opened.scheduler are.passes)) (subst P nothing c.requires.opened) in
    let end : RunEnd = record { history = made.scheduler.history; journals = journals_of made.workers.items; left = c.in_ok-left.field-0.left; watched = filled table is c.in_ok-left.field-0.watched } in
    let R : Policy → Type 0 = λ p. IsRunEndBy p table is end in
    let run = subst R (rounds.policy ∙ c.in-Ok.ensures.policy) c.in_ok-left.ensures.run in
    record {
      outcome = outcome_of end;
      run = paced-run c.args.policy table opened.scheduler.table c.args.plan.now arrivals c.args.given.now is made c.make_rounds.new.keeping.saved.items c.make_rounds.new.keeping.misses (outcome_of end)
          paced c.make_rounds.ensures.given c.make_rounds.ensures.as_given rounds.made refl run (c.headline_of_runs_by.ensures c.args.policy table is (outcome_of end) c.limits.ensures run);
      collected = rounds.collected held;
      left = refl;
    }

pub returns-clause-fits : goal.returns-clause-fits
returns-clause-fits g c = table-still c.args.config.now 0 c.args.given.now c.make_rounds.new.given c.make_rounds.ensures.given c.requires.fits

pub returns-clause-suits : goal.returns-clause-suits
returns-clause-suits g c =
    let P : Table → Type 0 = λ t. g.C.Collector.suits c.make_rounds.new.collector t in
    subst P c.in-Ok.ensures.parts.together.same_table c.in_ok-make_rounds.ensures.suits

-- the threads are those of the table
pub returns-clause-ordered : goal.returns-clause-ordered
returns-clause-ordered g c = λ met.
    let workers = c.in-Ok.parts.workers.items in
    let team = c.in-Ok.ensures.parts.together.threads in
    let seats = length-map workers (λ (w : Worker). seat_of w.thread) in
    let many : length workers ≡ threads_of_table c.args.config.now = omega (arith, team, seats) in
    let P : ℕ → Type 0 = λ n. g.C.Collector.met c.make_rounds.new.collector (then_rounds c.args.plan.now.pace n (length c.args.given.now.turns) []) in
    subst P many (c.in_ok-make_rounds.ensures.ordered [] met)
