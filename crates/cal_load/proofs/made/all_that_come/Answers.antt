use Rattle.cal_load.proofs.Common.{◌≡◌, ◌<◌, ◌≤◌, ◌+◌, ℕ, length, refl, ap, sym, subst, arith, All-get_or, IsComingTo, came_in, Gathered, MOST_REQUESTS, Coming, IsTask, no_task}
use Rattle.cal_load.proofs.Counted.{gathered_more, gathered_skip}
use Rattle.cal_load.proofs.made.all_that_come.Goals as goal

pub loop-task-init : goal.loop-task-init
loop-task-init c = record {
  gathered = c.new-gathered.ensures.is c.args.config.now c.args.plan.now.loads.now c.args.turns;
  came = sym (ap came_in c.new-gathered.ensures.none);
}

pub loop-task-preserved-in_default : goal.loop-task-preserved-in_default
loop-task-preserved-in_default c =
    let table = c.args.config.now in
    let lt : c.loop-task.task < length table.tasks = let test = c.loop-task-test.true in let count = c.tasks-task-end.ensures.count in omega (arith, test, count) in
    record {
      gathered = gathered_skip table c.args.plan.now.loads.now c.args.turns c.loop-task.task c.loop-task.gathered lt c.loop-task.invariant.gathered (c.in_default.ensures.none refl);
      came = c.loop-task.invariant.came;
    }

pub come-requires : goal.come-requires
come-requires c =
    let tasks = c.args.config.now.tasks in
    let lt : c.loop-task.task < length tasks = let test = c.loop-task-test.true in let count = c.tasks-task-end.ensures.count in omega (arith, test, count) in
    let is = All-get_or IsTask tasks c.loop-task.task no_task lt c.limits.ensures.each in
    let some = is.some_limit in
    let count = c.threads_of-first.ensures.count in
    omega (arith, some, count)

pub loop-task-preserved : goal.loop-task-preserved
loop-task-preserved c =
    let table = c.args.config.now in
    let loads = c.args.plan.now.loads.now in
    let turns = c.args.turns in
    let task = c.loop-task.task in
    let old : Gathered = c.loop-task.gathered in
    let new : Gathered = c.put.new.self in
    let coming : Coming = c.in-Some-2.coming in
    let lt : task < length table.tasks = let test = c.loop-task-test.true in let count = c.tasks-task-end.ensures.count in omega (arith, test, count) in
    let is : IsComingTo c.threads_of-first.result.1 turns coming = rw c.in-Some-2.is at c.in_ok-coming.ensures in
    let comes = subst (λ (n : ℕ). IsComingTo n turns coming) c.threads_of-first.ensures.count is in
    let before = c.loop-task.invariant.came in
    let sum = c.saturating_add-came.ensures in
    let small = c.if-came-gt-MOST_REQUESTS.false in
    let limit : MOST_REQUESTS ≡ 1000000 = refl in
    let few : came_in old.counts.items + coming.came ≤ MOST_REQUESTS = omega (arith, before, sum, small, limit) in
    let more = gathered_more table loads turns task c.threads_of-first.result.0 c.in-Some.load.now coming old new lt c.threads_of-first.ensures.first c.in-Some.ensures.some comes
    c.loop-task.invariant.gathered c.in_ok-put.ensures few in
    record {
      gathered = more.0;
      came = let came = more.1 in omega (arith, before, sum, small, limit, came);
    }
