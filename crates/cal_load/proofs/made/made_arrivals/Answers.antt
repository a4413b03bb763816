use Rattle.cal_load.proofs.Common.{◌≤◌, List, length, sym, subst, came_in, AreCountedBy, AreCountsOf, AreGathered, IsLoadCount, IsTimedBy, Timing, Count, MOST_REQUESTS, first_thread, Arrival}
use Rattle.cal_load.proofs.made.made_arrivals.Goals as goal

pub returns-clause-made : goal.returns-clause-made
returns-clause-made c =
    let table = c.args.config.now in
    let loads = c.args.plan.now.loads.now in
    let gathered = c.in-Some.gathered in
    let made = c.in_ok-made.made in
    let is : AreGathered table loads c.nearest-timing.result.turns (length table.tasks) gathered = rw c.in-Some.is at c.in_ok-gathered.ensures in
    let counted = subst (λ (l : List Count). AreCountedBy (IsLoadCount table loads) l gathered.requests.items) (sym c.in_ok-made.ensures.counts) is.counted in
    record {
      are = c.in_ok-made.ensures.whole table (first_thread table.tasks (length table.tasks)) is.built;
      counts = subst (λ (l : List Count). AreCountsOf loads (length table.tasks) l) (sym c.in_ok-made.ensures.counts) is.counts;
      counted = subst (λ (l : List Arrival). AreCountedBy (IsLoadCount table loads) made.counts.items l) (sym c.in_ok-made.ensures.requests) counted;
    }

pub returns-clause-few : goal.returns-clause-few
returns-clause-few c =
    let table = c.args.config.now in
    let is : AreGathered table c.args.plan.now.loads.now c.nearest-timing.result.turns (length table.tasks) c.in-Some.gathered = rw c.in-Some.is at c.in_ok-gathered.ensures in
    subst (λ (l : List Count). came_in l ≤ MOST_REQUESTS) (sym c.in_ok-made.ensures.counts) is.few

pub returns-clause-timed : goal.returns-clause-timed
returns-clause-timed c = λ is. subst (λ (t : Timing). IsTimedBy t c.in_ok-made.made.arrivals) (c.nearest-timing.ensures.same is) c.in_ok-made.ensures.timed
