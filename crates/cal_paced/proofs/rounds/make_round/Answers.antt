use Rattle.cal_paced.proofs.Common.{◌≡◌, ◌+◌, ◌-◌, ◌*◌, ◌<◌, ◌≤◌, ℕ, List, replicate, sym, ap, subst, ◌∙◌, length, arith, length-map, with_items_is, then_passes, then_turns, SchedulerSeat, WatchSeat, HaveMade, Seat, journals_of, seat_of, seats_of, Parts, Worker, AreAllCores, AreBelowWhole, misses_of, standings_of, IsRound}
use Rattle.std.specs.Vec.{with_items}
use Rattle.std.specs.declared.alloc.Global.{Global}
use Rattle.std.specs.declared.vec.Vec.{Vec}
use Rattle.cal_machine.specs.declared.core_set.CoreSet.{CoreSet}
use Rattle.cal_paced.proofs.Differing.{fit-still, made-still, passed-still}
use Rattle.cal_paced.proofs.Rounding.{round-more, row}
use Rattle.cal_paced.proofs.rounds.make_round.Goals as goal

-- there are passes before the turn
some-passes : (pace r passes turns : ℕ) → passes ≡ pace * turns → r < turns → pace * r + pace ≤ passes
some-passes pace r passes turns many low = let own = row pace r turns low in omega (arith, many, own)

pub show_figure-requires-clause-few : goal.show_figure-requires-clause-few
show_figure-requires-clause-few g c = let value = ap (λ (l : List Worker). length l) c.as_slice.ensures.value in let few = c.requires.few in omega (arith, value, few)

pub show_figure-requires-clause-some : goal.show_figure-requires-clause-some
show_figure-requires-clause-some g c = some-passes c.args.plan.now.pace c.args.r _ _ c.requires.many c.requires.given

pub make_passes-requires-clause-fits : goal.make_passes-requires-clause-fits
make_passes-requires-clause-fits g c = fit-still _ c.args.given.now c.show_figure.new.given c.show_figure.ensures.given c.requires.fits

pub make_passes-requires-clause-some : goal.make_passes-requires-clause-some
make_passes-requires-clause-some g c = let many = c.show_figure.ensures.given.many in let low = some-passes c.args.plan.now.pace c.args.r _ _ c.requires.many c.requires.given in omega (arith, many, low)

pub make_passes-requires-clause-passed : goal.make_passes-requires-clause-passed
make_passes-requires-clause-passed g c = passed-still _ c.args.given.now c.show_figure.new.given c.args.parts.now.scheduler c.show_figure.ensures.given c.requires.before.are.passes

pub make_turns-requires-clause-fits : goal.make_turns-requires-clause-fits
make_turns-requires-clause-fits g c = fit-still _ c.args.given.now c.show_figure.new.given c.show_figure.ensures.given c.requires.fits

pub make_turns-requires-clause-given : goal.make_turns-requires-clause-given
make_turns-requires-clause-given g c = let turns = ap (λ (l : List ℕ). length l) c.show_figure.ensures.given.turns in let low = c.requires.given in omega (arith, turns, low)

pub make_turns-requires-clause-made : goal.make_turns-requires-clause-made
make_turns-requires-clause-made g c =
    let P : List Worker → Type 0 = λ l. HaveMade c.show_figure.new.given c.args.r l in
    subst P (sym c.as_mut_slice.ensures.value) (made-still _ c.args.given.now c.show_figure.new.given c.args.r c.args.parts.now.workers.items c.show_figure.ensures.given c.requires.before.are.turns)

pub make_turns-requires-clause-kept : goal.make_turns-requires-clause-kept
make_turns-requires-clause-kept g c =
    let value = ap (λ (l : List Worker). length l) c.as_mut_slice.ensures.value in
    let kept = c.requires.before.kept in
    let same = ap (λ (v : Vec ℕ Global). length v.items) c.show_figure.ensures.saved in omega (arith, value, kept, same)

pub make_turns-requires-clause-below : goal.make_turns-requires-clause-below
make_turns-requires-clause-below g c = subst (λ (v : Vec ℕ Global). AreBelowWhole v.items) (sym c.show_figure.ensures.saved) c.requires.before.below

pub make_turns-requires-clause-nothing : goal.make_turns-requires-clause-nothing
make_turns-requires-clause-nothing g c nobody =
    ap (λ (v : Vec ℕ Global). v.items) c.show_figure.ensures.saved ∙ c.requires.before.nothing nobody ∙ ap (λ (l : List Worker). replicate (length l) 0) (sym c.as_mut_slice.ensures.value)

pub make_turns-requires-clause-cores : goal.make_turns-requires-clause-cores
make_turns-requires-clause-cores g c = subst (λ (s : CoreSet). AreAllCores s) (sym c.show_figure.ensures.cores) c.requires.cores

-- after the turns the threads are what was written back
pub returns-clause-made : goal.returns-clause-made
returns-clause-made g c =
    let before : Parts = c.args.parts.now in
    let workers = c.make_turns.new.workers in
    let seats : seats_of workers ≡ seats_of before.workers.items = c.in_ok-make_turns.ensures.seats ∙ ap seats_of c.as_mut_slice.ensures.value in
    let many : length workers ≡ length before.workers.items =
    sym (length-map workers (λ (w : Worker). seat_of w.thread)) ∙ ap (λ (l : List Seat). length l) seats ∙ length-map before.workers.items (λ (w : Worker). seat_of w.thread) in
    let after : Parts = record { scheduler = c.make_passes.new.scheduler; workers = with_items before.workers workers; watch = c.watch_passes.new.watch } in
    let is : after.workers.items ≡ workers = with_items_is before.workers workers (omega (arith, many, before.workers.ok.0)) in
    let old = c.args.keeping.now.saved in
    let kept = c.show_figure.ensures.saved in
    let given = c.show_figure.new.given in
    let saved = c.make_turns.new.keeping.saved in
    let P : List Worker → Type 0 = λ l. HaveMade given (c.args.r + 1) l in
    let lengths = ap (λ (v : Vec ℕ Global). length v.items) kept in
    let still = c.in_ok-make_turns.ensures.kept in
    let misses = c.in_ok-make_turns.ensures.misses in
    let value = c.as_slice.ensures.value in
    let R : List Worker → List ℕ → List Worker → Type 0 = λ a s b. IsRound c.args.plan.now given c.args.r (standings_of a s) (standings_of b saved.items) in
    let round = subst (λ (b : List Worker). R before.workers.items old.items b) (sym is)
    (subst (λ (v : Vec ℕ Global). R before.workers.items v.items workers) kept
    (subst (λ (a : List Worker). R a c.show_figure.new.keeping.saved.items workers) c.as_mut_slice.ensures.value c.in_ok-make_turns.ensures.shares)) in
    round-more c.args.plan.now before.scheduler.table c.args.r c.args.given.now given before after old.items saved.items c.args.keeping.now.misses c.make_turns.new.keeping.misses
    c.requires.before c.show_figure.ensures.given
    (λ so i pass high low at. c.show_figure.ensures.figures so i pass high low at ∙ ap (λ (l : List Worker). misses_of l - c.args.keeping.now.misses) value)
    (λ so. misses ∙ c.show_figure.ensures.misses so ∙ ap misses_of value)
    c.make_passes.ensures.seat (ap seats_of is ∙ seats) c.watch_passes.ensures.seat
    c.in_ok-make_passes.ensures.passed (subst P (sym is) c.in_ok-make_turns.ensures.made) c.watch_passes.ensures.rounds
    (omega (arith, still, lengths)) c.in_ok-make_turns.ensures.below
    (λ nobody. ap (λ (v : Vec ℕ Global). v.items) (c.in_ok-make_turns.ensures.nothing nobody ∙ kept)) round

pub returns-clause-few : goal.returns-clause-few
returns-clause-few g c =
    let before : Parts = c.args.parts.now in
    let workers = c.make_turns.new.workers in
    let seats : seats_of workers ≡ seats_of before.workers.items = c.in_ok-make_turns.ensures.seats ∙ ap seats_of c.as_mut_slice.ensures.value in
    let many : length workers ≡ length before.workers.items =
    sym (length-map workers (λ (w : Worker). seat_of w.thread)) ∙ ap (λ (l : List Seat). length l) seats ∙ length-map before.workers.items (λ (w : Worker). seat_of w.thread) in
    let is : (with_items before.workers workers).items ≡ workers = with_items_is before.workers workers (omega (arith, many, before.workers.ok.0)) in
    ap (λ (l : List Worker). length l) is ∙ many

pub returns-clause-collected : goal.returns-clause-collected
returns-clause-collected g c = λ held.
    let before : Parts = c.args.parts.now in
    let workers = c.make_turns.new.workers in
    let seats : seats_of workers ≡ seats_of before.workers.items = c.in_ok-make_turns.ensures.seats ∙ ap seats_of c.as_mut_slice.ensures.value in
    let many : length workers ≡ length before.workers.items =
    sym (length-map workers (λ (w : Worker). seat_of w.thread)) ∙ ap (λ (l : List Seat). length l) seats ∙ length-map before.workers.items (λ (w : Worker). seat_of w.thread) in
    let is : (with_items before.workers workers).items ≡ workers = with_items_is before.workers workers (omega (arith, many, before.workers.ok.0)) in
    let history = c.make_passes.new.scheduler.history in
    let passed : g.C.Collector.holds c.make_passes.new.collector history (journals_of before.workers.items) =
    c.in_ok-make_passes.ensures.collected (journals_of before.workers.items) held in
    let P : List Worker → Type 0 = λ l. g.C.Collector.holds c.make_passes.new.collector history (journals_of l) in
    let Q : List Worker → Type 0 = λ l. g.C.Collector.holds c.make_turns.new.collector history (journals_of l) in
    subst Q (sym is) (c.in_ok-make_turns.ensures.collected history (subst P (sym c.as_mut_slice.ensures.value) passed))

pub returns-clause-suits : goal.returns-clause-suits
returns-clause-suits g c = c.in_ok-make_turns.ensures.suits c.args.parts.now.scheduler.table c.in_ok-make_passes.ensures.suits

-- the watch stays in its seat, and the scheduler in its own, with its policy
pub returns-clause-most : goal.returns-clause-most
returns-clause-most g c = ap (λ (w : WatchSeat). w.most) c.watch_passes.ensures.seat

pub returns-clause-policy : goal.returns-clause-policy
returns-clause-policy g c = ap (λ (s : SchedulerSeat). s.policy) c.make_passes.ensures.seat

-- the turns come after the passes
pub returns-clause-ordered : goal.returns-clause-ordered
returns-clause-ordered g c = λ made held.
    let P : List Worker → Type 0 = λ l. g.C.Collector.met c.make_turns.new.collector (then_turns (length l) (then_passes c.args.plan.now.pace made)) in
    subst P c.as_mut_slice.ensures.value (c.in_ok-make_turns.ensures.ordered _ (c.in_ok-make_passes.ensures.ordered made held))
