use Rattle.cal_run.proofs.Common.{◌≡◌, ◌+◌, List, sym, ap, subst, ◌∙◌, length, min, arith, length-map, with_items_is, then_round, SchedulerSeat, WatchSeat, HaveMade, Seat, journals_of, seat_of, seats_of, Parts, Worker}
use Rattle.std.specs.Vec.{with_items}
use Rattle.cal_run.proofs.RoundsLemmas.Rounds.{round_more}
use Rattle.cal_run.proofs.rounds.make_round.Goals as goal

pub turns_of_round-requires-clause-made : goal.turns_of_round-requires-clause-made
turns_of_round-requires-clause-made g c =
    let P : List Worker → Type 0 = λ l. HaveMade c.args.arrivals.now (min c.args.r (length c.args.arrivals.now.turns)) l in
    subst P (sym c.as_mut_slice.ensures.value) c.requires.before.turns

-- after the turns the threads are what was written back
pub returns-clause-made : goal.returns-clause-made
returns-clause-made g c =
    let before = c.args.parts.now in
    let workers = c.turns_of_round.new.workers in
    let same : seats_of workers ≡ seats_of before.workers.items = c.in_ok-turns_of_round.ensures.seats ∙ ap seats_of c.as_mut_slice.ensures.value in
    let many : length workers ≡ length before.workers.items =
    sym (length-map workers (λ (w : Worker). seat_of w.thread)) ∙ ap (λ (l : List Seat). length l) same ∙ length-map before.workers.items (λ (w : Worker). seat_of w.thread) in
    let after : Parts = record { scheduler = c.pass_of_round.new.scheduler; workers = with_items before.workers workers; watch = c.watch_of_round.new.watch } in
    let is : after.workers.items ≡ workers = with_items_is before.workers workers (omega (arith, many, before.workers.ok.0)) in
    let P : List Worker → Type 0 = λ l. HaveMade c.args.arrivals.now (min (c.args.r + 1) (length c.args.arrivals.now.turns)) l in
    round_more before.scheduler.table c.args.arrivals.now c.args.r before after c.requires.before
    c.pass_of_round.ensures.seat (ap seats_of is ∙ same) c.watch_of_round.ensures.seat
    c.in_ok-pass_of_round.ensures.passed (subst P (sym is) c.in_ok-turns_of_round.ensures.made) c.watch_of_round.ensures.rounds

pub returns-clause-collected : goal.returns-clause-collected
returns-clause-collected g c = λ held.
    let before = c.args.parts.now in
    let workers = c.turns_of_round.new.workers in
    let same : seats_of workers ≡ seats_of before.workers.items = c.in_ok-turns_of_round.ensures.seats ∙ ap seats_of c.as_mut_slice.ensures.value in
    let many : length workers ≡ length before.workers.items =
    sym (length-map workers (λ (w : Worker). seat_of w.thread)) ∙ ap (λ (l : List Seat). length l) same ∙ length-map before.workers.items (λ (w : Worker). seat_of w.thread) in
    let is : (with_items before.workers workers).items ≡ workers = with_items_is before.workers workers (omega (arith, many, before.workers.ok.0)) in
    let history = c.pass_of_round.new.scheduler.history in
    let passed : g.C.Collector.holds c.pass_of_round.new.collector history (journals_of before.workers.items) =
    c.in_ok-pass_of_round.ensures.collected (journals_of before.workers.items) held in
    let P : List Worker → Type 0 = λ l. g.C.Collector.holds c.pass_of_round.new.collector history (journals_of l) in
    let Q : List Worker → Type 0 = λ l. g.C.Collector.holds c.turns_of_round.new.collector history (journals_of l) in
    subst Q (sym is) (c.in_ok-turns_of_round.ensures.collected history (subst P (sym c.as_mut_slice.ensures.value) passed))

-- the turns come after the pass
pub returns-clause-ordered : goal.returns-clause-ordered
returns-clause-ordered g c = λ made held.
    let arrivals = c.args.arrivals.now in
    let P : List Worker → Type 0 = λ l. g.C.Collector.met c.turns_of_round.new.collector (then_round (length arrivals.passes) (length arrivals.turns) (length l) c.args.r made) in
    subst P c.as_mut_slice.ensures.value (c.in_ok-turns_of_round.ensures.ordered _ (c.in_ok-pass_of_round.ensures.ordered made held))

pub returns-clause-many : goal.returns-clause-many
returns-clause-many g c =
    let before = c.args.parts.now in
    let workers = c.turns_of_round.new.workers in
    let same : seats_of workers ≡ seats_of before.workers.items = c.in_ok-turns_of_round.ensures.seats ∙ ap seats_of c.as_mut_slice.ensures.value in
    let many : length workers ≡ length before.workers.items =
    sym (length-map workers (λ (w : Worker). seat_of w.thread)) ∙ ap (λ (l : List Seat). length l) same ∙ length-map before.workers.items (λ (w : Worker). seat_of w.thread) in
    let is : (with_items before.workers workers).items ≡ workers = with_items_is before.workers workers (omega (arith, many, before.workers.ok.0)) in
    ap (λ (l : List Worker). length l) is ∙ many

pub returns-clause-suits : goal.returns-clause-suits
returns-clause-suits g c = c.in_ok-turns_of_round.ensures.suits c.args.parts.now.scheduler.table c.in_ok-pass_of_round.ensures.suits

-- the watch stays in its seat
pub returns-clause-most : goal.returns-clause-most
returns-clause-most g c = ap (λ (w : WatchSeat). w.most) c.watch_of_round.ensures.seat

-- and the scheduler in its own, with its policy
pub returns-clause-policy : goal.returns-clause-policy
returns-clause-policy g c = ap (λ (s : SchedulerSeat). s.policy) c.pass_of_round.ensures.seat
