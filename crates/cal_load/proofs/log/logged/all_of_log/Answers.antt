use Rattle.cal_load.proofs.Common.{◌≡◌, ◌<◌, [], ℕ, length, refl, subst, arith, All-get_or, IsComingTo, IsTask, no_task}
use Rattle.cal_machine.specs.declared.numbering.TheConstants.{MOST_THREADS}
use Rattle.cal_load.proofs.LogCounts.{given_more, given_nothing}
use Rattle.cal_load.proofs.log.logged.all_of_log.Goals as goal

pub loop-task-init : goal.loop-task-init
loop-task-init c =
    given_nothing c.args.config.now c.args.rows.now c.args.turns c.new-gathered.result (c.new-gathered.ensures.is c.args.config.now [] c.args.turns).built c.new-gathered.ensures.nothing
    c.new-gathered.ensures.none

pub come_of-requires : goal.come_of-requires
come_of-requires c =
    let tasks = c.args.config.now.tasks in
    let lt : c.loop-task.task < length tasks = let test = c.loop-task-test.true in let count = c.tasks-task-end.ensures.count in omega (arith, test, count) in
    let is = All-get_or IsTask tasks c.loop-task.task no_task lt c.limits.ensures.each in
    record {
      logged = record { at = λ k row e. (c.requires.each.at k row e).work };
      few = c.requires.few;
      threads = let some = is.some_limit in let count = c.threads_of-first.ensures.count in omega (arith, some, count);
    }

pub put-requires : goal.put-requires
put-requires c =
    let many = c.in_ok-coming.ensures.coming.queues in
    let within = c.threads_of-first.ensures.within in
    let most = c.limits.ensures.threads in
    let limit : MOST_THREADS ≡ 128 = refl in
    omega (arith, many, within, most, limit)

pub loop-task-preserved : goal.loop-task-preserved
loop-task-preserved c =
    let table = c.args.config.now in
    let task = c.loop-task.task in
    let coming = c.in_ok-coming.coming in
    let lt : task < length table.tasks = let test = c.loop-task-test.true in let count = c.tasks-task-end.ensures.count in omega (arith, test, count) in
    let comes = subst (λ (n : ℕ). IsComingTo n c.args.turns coming) c.threads_of-first.ensures.count c.in_ok-coming.ensures.coming in
    given_more table c.args.rows.now c.args.turns task c.threads_of-first.result.0 coming c.loop-task.gathered c.put.new.self lt c.threads_of-first.ensures.first comes
    c.in_ok-coming.ensures.came c.loop-task.invariant c.in_ok-put.ensures
