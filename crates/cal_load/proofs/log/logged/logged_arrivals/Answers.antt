use Rattle.cal_load.proofs.Common.{List, length, sym, subst, AreOfTasks, IsLogCount, AreCountedBy, IsTimedBy, Timing, Count, first_thread, Arrival}
use Rattle.cal_load.proofs.log.logged.logged_arrivals.Goals as goal

pub returns-clause-made : goal.returns-clause-made
returns-clause-made c = c.in_ok-made.ensures.whole c.args.config.now (first_thread c.args.config.now.tasks (length c.args.config.now.tasks)) c.in_ok-gathered.ensures.built

pub returns-clause-counted : goal.returns-clause-counted
returns-clause-counted c =
    let table = c.args.config.now in
    let rows = c.args.rows.now in
    let gathered = c.in_ok-gathered.gathered in
    let made = c.in_ok-made.made in
    let given = c.in_ok-gathered.ensures in
    let counted = subst (λ (l : List Count). AreCountedBy (IsLogCount table rows) l gathered.requests.items) (sym c.in_ok-made.ensures.counts) given.counted in
    record {
      tasks = subst (λ (l : List Count). AreOfTasks (length table.tasks) l) (sym c.in_ok-made.ensures.counts) given.tasks;
      counted = subst (λ (l : List Arrival). AreCountedBy (IsLogCount table rows) made.counts.items l) (sym c.in_ok-made.ensures.requests) counted;
    }

pub returns-clause-timed : goal.returns-clause-timed
returns-clause-timed c = λ is. subst (λ (t : Timing). IsTimedBy t c.in_ok-made.made.arrivals) (c.nearest-timing.ensures.same is) c.in_ok-made.ensures.timed
