-- The tasks between those with a thread that waits add nothing.
use Rattle.cal_policy.proofs.Common.{◌≡◌, ◌+◌, ◌≤◌, length, ◌∙◌, arith, first_next, first_thread, task_at, lacks_waiting, setting_in, so_far}
use Rattle.cal_machine.proofs.ThreadNumbers.{first_le}
use Rattle.cal_policy.proofs.AssuredLemmas.Lacking.{sum_grows, lacks_between}
use Rattle.cal_policy.proofs.PassLemmas.Bandwidth.{sum_more}
use Rattle.cal_policy.proofs.PassLemmas.NothingDue.{task_not_before}
use Rattle.cal_policy.proofs.pass.Pass.lacking_to.Goals as goal

pub loop-waiting-preserved : goal.loop-waiting-preserved
loop-waiting-preserved c =
    let i = c.loop-waiting.invariant in
    let p = c.requires.at_hand in
    let table = c.args.self.now.config.now in
    let task = c.task_of-task.result in
    let reached = c.loop-waiting.reached in
    let there = c.task_of-task.ensures.is_task in
    let le : reached ≤ task = task_not_before table.tasks reached task c.in-Some.waiting i.reached there (omega (arith, i.first, c.in-Some.ensures.next.0)) c.task_of-task.ensures.within in
    let upto : first_thread table.tasks (task + 1) ≡ first_thread table.tasks task + (task_at table.tasks task).limit = first_next table.tasks task there in
    record {
      sum = λ h acts st.
          let s = setting_in c.args.self.now h in
          sum_more (lacks_waiting s (so_far s acts)) task _ _
          (i.sum h acts st ∙ lacks_between c.args.board.now s acts st p.ready.keeping p.accepted reached task le (omega (arith, there))
          (λ j y z. c.in-Some.ensures.between j (omega (arith, i.first, y)) (omega (arith, z, c.task_of-task.ensures.from_first))))
          (c.lacks_waiting-lacking.ensures.lacks h acts st);
      small = omega (arith, i.small, le, c.lacks_waiting-lacking.ensures.few);
      most = omega (arith, there, p.accepted.tasks);
      reached = omega (arith, there);
      first = omega (arith, upto, c.threads_of-begin.ensures.first, c.threads_of-begin.ensures.count);
    }

pub returns-then-enough-lacking-clause-all : goal.returns-then-enough-lacking-clause-all
returns-then-enough-lacking-clause-all c = λ h acts st less. absurd (omega (arith, less, c.if-enough-lacking.true))

pub returns-then-enough-lacking-clause-fewer : goal.returns-then-enough-lacking-clause-fewer
returns-then-enough-lacking-clause-fewer c = λ h acts st.
    let i = c.loop-waiting.invariant in
    let p = c.requires.at_hand in
    let table = c.args.self.now.config.now in
    let s = setting_in c.args.self.now h in
    let task = c.task_of-task.result in
    let reached = c.loop-waiting.reached in
    let there = c.task_of-task.ensures.is_task in
    let le : reached ≤ task = task_not_before table.tasks reached task c.in-Some.waiting i.reached there (omega (arith, i.first, c.in-Some.ensures.next.0)) c.task_of-task.ensures.within in
    let made = sum_more (lacks_waiting s (so_far s acts)) task _ _
    (i.sum h acts st ∙ lacks_between c.args.board.now s acts st p.ready.keeping p.accepted reached task le (omega (arith, there))
    (λ j y z. c.in-Some.ensures.between j (omega (arith, i.first, y)) (omega (arith, z, c.task_of-task.ensures.from_first))))
    (c.lacks_waiting-lacking.ensures.lacks h acts st) in
    omega (arith, made, sum_grows (lacks_waiting s (so_far s acts)) (task + 1) (length table.tasks) (omega (arith, there)))

pub returns-clause-all : goal.returns-clause-all
returns-clause-all c = λ h acts st less.
    let i = c.loop-waiting.invariant in
    let p = c.requires.at_hand in
    let table = c.args.self.now.config.now in
    i.sum h acts st
    ∙ lacks_between c.args.board.now (setting_in c.args.self.now h) acts st p.ready.keeping p.accepted c.loop-waiting.reached (length table.tasks) i.reached (omega arith)
    (λ j y z. c.in_default.ensures.none j (omega (arith, i.first, y)) (omega (arith, z, first_le table.tasks (length table.tasks))))

pub returns-clause-fewer : goal.returns-clause-fewer
returns-clause-fewer c = λ h acts st.
    let i = c.loop-waiting.invariant in
    let s = setting_in c.args.self.now h in
    let table = c.args.self.now.config.now in
    omega (arith, i.sum h acts st, sum_grows (lacks_waiting s (so_far s acts)) c.loop-waiting.reached (length table.tasks) i.reached)
