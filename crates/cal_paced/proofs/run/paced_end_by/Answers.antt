use Rattle.cal_paced.proofs.Common.{◌≡◌, ◌*◌, ℕ, List, length, refl, subst, sym, ap, ◌∙◌, arith, length-map, Policy, IsRunEndBy, outcome_of, AreParts, filled, rounds_of, journals_of, seat_of, Worker, IsPacedEndOf}
use Rattle.cal_run.proofs.OutcomeLemmas.Filled.{filled_whole}
use Rattle.cal_signal.specs.declared.look.Look.{Look}
use Rattle.cal_run.specs.declared.outcome.RunEnd.{RunEnd}
use Rattle.cal_run.proofs.CollectorLemmas.Opened.{no_pass_yet, no_turn_yet, same_empty}
use Rattle.cal_paced.proofs.Differing.{table-still}
use Rattle.cal_paced.proofs.Ending.{all-made, ended, paced-run}
use Rattle.cal_paced.proofs.run.paced_end_by.Goals as goal

pub make_rounds-requires-clause-few : goal.make_rounds-requires-clause-few
make_rounds-requires-clause-few c =
    let few = c.limits.ensures.threads in
    let team = c.in_ok-parts.ensures.parts.together.threads in
    let seats = length-map c.in_ok-parts.parts.workers.items (λ (w : Worker). seat_of w.thread) in omega (arith, few, team, seats)

pub end_run-requires-clause-fits : goal.end_run-requires-clause-fits
end_run-requires-clause-fits c = table-still c.args.config.now 0 c.args.given.now c.make_rounds.new.given c.make_rounds.ensures.given c.requires.fits

-- all rounds of the watch were made
pub end_run-requires-clause-made : goal.end_run-requires-clause-made
end_run-requires-clause-made c =
    let made = c.in_ok-make_rounds.ensures in
    let opened = c.in_ok-parts.ensures in
    let given = c.make_rounds.new.given in
    let differ = c.make_rounds.ensures.given in
    let many = differ.many ∙ c.requires.many ∙ ap (λ (l : List ℕ). c.args.plan.now.pace * length l) (sym differ.turns) in
    let most = made.most ∙ opened.most in
    let alike = differ.many in
    ended c.args.config.now given c.make_rounds.new.parts
    (all-made c.args.plan.now c.args.config.now _ given c.make_rounds.new.parts c.make_rounds.new.keeping.saved.items c.make_rounds.new.keeping.misses (rounds_of given) many opened.parts.together.same_table
    (omega (arith, most, alike)) made.made)

pub returns-clause-run : goal.returns-clause-run
returns-clause-run c arrivals paced =
    let table = c.args.config.now in
    let is = c.make_rounds.new.given in
    let opened = c.in_ok-parts.parts in
    let are = c.in_ok-parts.ensures.parts in
    let made = c.make_rounds.new.parts in
    let rounds = c.in_ok-make_rounds.ensures in
    let fresh = c.in_ok-collection.ensures in
    let collection = c.in_ok-collection.collection in
    let history : collection.history.items ≡ opened.scheduler.history = fresh.history ∙ sym (no_pass_yet c.args.given.now opened.scheduler are.passes) in
    let threads = length-map opened.workers.items (λ (w : Worker). w.thread.journal) in
    let own = opened.workers.ok.0 in
    let count = fresh.count in
    let size = c.len.ensures in
    let many : length collection.journals.items ≡ length (journals_of opened.workers.items) = omega (arith, count, size, own, threads) in
    let journals : collection.journals.items ≡ journals_of opened.workers.items =
    same_empty collection.journals.items (journals_of opened.workers.items) many fresh.empty (no_turn_yet c.args.given.now opened.workers.items are.turns) in
    let held = rounds.collected (history, journals) in
    let rest = c.in_ok-left in
    let end : RunEnd = record { history = made.scheduler.history; journals = journals_of made.workers.items; left = rest.field-0.left; watched = filled table is rest.field-0.watched } in
    let R : Policy → Type 0 = λ p. IsRunEndBy p table is end in
    let run = subst R (rounds.policy ∙ c.in_ok-parts.ensures.policy) rest.ensures.run in
    let differ = c.make_rounds.ensures.given in
    let row = differ.many ∙ c.requires.many ∙ ap (λ (l : List ℕ). c.args.plan.now.pace * length l) (sym differ.turns) in
    let most = rounds.most ∙ c.in_ok-parts.ensures.most in
    let alike = differ.many in
    let whole : AreParts table is (length is.passes) (length is.turns) (rounds_of is) made =
    all-made c.args.plan.now table _ is made c.make_rounds.new.keeping.saved.items c.make_rounds.new.keeping.misses (rounds_of is) row are.together.same_table
    (omega (arith, most, alike)) rounds.made in
    let full = filled_whole table is rest.field-0.watched (ap (λ (l : List (List Look)). length l) rest.ensures.watched ∙ whole.rounds) in
    let told : c.new-3.result ≡ made.scheduler.history = c.new-3.ensures ∙ c.in_ok-history.ensures.history ∙ held.0 in
    let kept : c.new-4.result ≡ journals_of made.workers.items = c.new-4.ensures ∙ c.in_ok-history.ensures.journals ∙ held.1 in
    let said : RunEnd = record { history = c.new-3.result; journals = c.new-4.result; left = rest.field-0.left; watched = rest.field-0.watched } in
    let same : ◌≡◌ {A = RunEnd} end said = λ i. record { history = (sym told) i; journals = (sym kept) i; left = rest.field-0.left; watched = full i } in
    let P : RunEnd → Type 0 = λ e. IsPacedEndOf c.args.policy table c.args.plan.now arrivals is e in
    subst P same
    (paced-run c.args.policy table opened.scheduler.table c.args.plan.now arrivals c.args.given.now is made c.make_rounds.new.keeping.saved.items c.make_rounds.new.keeping.misses (outcome_of end)
    paced c.make_rounds.ensures.given c.make_rounds.ensures.as_given rounds.made refl run (c.headline_of_runs_by.ensures c.args.policy table is (outcome_of end) c.limits.ensures run))
