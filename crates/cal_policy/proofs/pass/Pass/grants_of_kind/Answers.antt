-- Each task of the kind with a thread that waits gives what is due, and the tasks between give nothing.
use Rattle.cal_policy.proofs.Common.{◌≡◌, ℕ, ◌+◌, ◌≤◌, Bool, refl, length, arith, first_next, next_le, first_thread, task_at, setting_in, grant_of_kind_at, is_of_kind}
use Rattle.cal_policy.proofs.ListLemmas.OneNumberMore.{count_more, count_within, count_grows}
use Rattle.cal_policy.proofs.PassLemmas.NoneOpen.{none_given}
use Rattle.cal_policy.proofs.PassLemmas.NothingDue.{none_waits, task_not_before, threads_between}
use Rattle.cal_policy.proofs.PassLemmas.PartSoFar.{Reached_one, Reached_skip}
use Rattle.cal_policy.proofs.pass.Pass.grants_of_kind.Goals as goal

pub grant_of_kind-requires-clause-room : goal.grant_of_kind-requires-clause-room
grant_of_kind-requires-clause-room c =
    let i = c.loop-waiting.invariant in
    let table = c.args.self.now.config.now in
    let of_kind : ℕ → Bool = is_of_kind c.args.kind table in
    let task = c.task_of-task.result in
    let le : c.loop-waiting.reached ≤ task = task_not_before table.tasks c.loop-waiting.reached task c.in-Some.waiting i.reached c.task_of-task.ensures.is_task
    (omega (arith, i.first, c.in-Some.ensures.next.0)) c.task_of-task.ensures.within in
    omega (arith, count_within of_kind task (length table.tasks) c.task_of-task.ensures.is_task, count_grows of_kind c.loop-waiting.reached task le, i.length, c.requires.room)

pub loop-waiting-preserved : goal.loop-waiting-preserved
loop-waiting-preserved c =
    let i = c.loop-waiting.invariant in
    let table = c.args.self.now.config.now in
    let of_kind : ℕ → Bool = is_of_kind c.args.kind table in
    let task = c.task_of-task.result in
    let reached = c.loop-waiting.reached in
    let from = c.in-Some.ensures.next.0 in
    let there = c.task_of-task.ensures.is_task in
    let le : reached ≤ task = task_not_before table.tasks reached task c.in-Some.waiting i.reached there (omega (arith, i.first, from)) c.task_of-task.ensures.within in
    let upto : first_thread table.tasks (task + 1) ≡ first_thread table.tasks task + (task_at table.tasks task).limit = first_next table.tasks task there in
    record {
      acts = λ h st.
          let s = setting_in c.args.self.now h in
          let r = i.acts h st in
          Reached_one (grant_of_kind_at c.args.kind s) s c.args.out.now _ _ c.loop-waiting.board _ task
          (Reached_skip (grant_of_kind_at c.args.kind s) s c.args.out.now _ c.loop-waiting.board reached task le
          (λ u a b.
          let between = threads_between table.tasks reached u task a b (omega (arith, there)) in
          none_waits c.loop-waiting.board s c.loop-waiting.out r.1 i.ready.keeping c.args.kind u
          (omega (arith, next_le table.tasks u (omega (arith, b, there)), c.requires.of_table.accepted.threads))
          (λ j x y. c.in-Some.ensures.between j (omega (arith, i.first, between.0, x)) (omega (arith, y, between.1, c.task_of-task.ensures.from_first)))) r)
          (c.grant_of_kind.ensures.acts h);
      ready = c.grant_of_kind.ensures.ready;
      length = omega (arith, count_more of_kind task, count_grows of_kind reached task le, i.length, c.grant_of_kind.ensures.length);
      reached = omega (arith, there);
      first = omega (arith, upto, c.threads_of-begin.ensures.first, c.threads_of-begin.ensures.count);
    }

pub returns-clause-acts : goal.returns-clause-acts
returns-clause-acts c = λ h st.
    let i = c.loop-waiting.invariant in
    let table = c.args.self.now.config.now in
    let s = setting_in c.args.self.now h in
    let r = i.acts h st in
    Reached_skip (grant_of_kind_at c.args.kind s) s c.args.out.now _ c.loop-waiting.board c.loop-waiting.reached (length table.tasks) i.reached
    (λ u a b.
    let between = threads_between table.tasks c.loop-waiting.reached u (u + 1) a (omega arith) (omega (arith, b)) in
    let end = next_le table.tasks u b in
    none_waits c.loop-waiting.board s c.loop-waiting.out r.1 i.ready.keeping c.args.kind u (omega (arith, end, c.requires.of_table.accepted.threads))
    (λ j x y. c.in_default.ensures.none j (omega (arith, i.first, between.0, x)) (omega (arith, y, end)))) r

pub returns-clause-length : goal.returns-clause-length
returns-clause-length c =
    let i = c.loop-waiting.invariant in
    omega (arith, i.length, count_grows (is_of_kind c.args.kind c.args.self.now.config.now) c.loop-waiting.reached (length c.args.self.now.config.now.tasks) i.reached)

-- where no core is open to a task, the tasks that are left get nothing
pub returns-then-not-some_core_is_open-clause-acts : goal.returns-then-not-some_core_is_open-clause-acts
returns-then-not-some_core_is_open-clause-acts c = λ h st.
    let i = c.loop-waiting.invariant in
    let table = c.args.self.now.config.now in
    let s = setting_in c.args.self.now h in
    let r = i.acts h st in
    Reached_skip (grant_of_kind_at c.args.kind s) s c.args.out.now _ c.loop-waiting.board c.loop-waiting.reached (length table.tasks) i.reached
    (λ u a b. none_given c.args.kind s c.loop-waiting.out u (c.if-not-some_core_is_open.ensures refl h c.loop-waiting.out r.1 u b)) r

pub returns-then-not-some_core_is_open-clause-length : goal.returns-then-not-some_core_is_open-clause-length
returns-then-not-some_core_is_open-clause-length c =
    let i = c.loop-waiting.invariant in
    omega (arith, i.length, count_grows (is_of_kind c.args.kind c.args.self.now.config.now) c.loop-waiting.reached (length c.args.self.now.config.now.tasks) i.reached)
