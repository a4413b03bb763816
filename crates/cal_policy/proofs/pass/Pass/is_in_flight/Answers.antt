-- A core that the thread holds by an untaken Run is counted, and is one of those that its task had last.
use Rattle.cal_policy.proofs.Common.{◌≡◌, ℕ, ◌<◌, ◌≤◌, Bool, false, List, refl, sym, subst, ◌∙◌, arith, Table, owner_of, MOST_TASKS, Record, Board, Action, is_untaken, holder_of, setting_in, had_by, count_below, so_far, kept_now, Agrees, IsReady}
use Rattle.cal_policy.proofs.AssuredLemmas.AsKept.{none_untaken}
use Rattle.cal_policy.proofs.AssuredLemmas.Sent.{all_taken}
use Rattle.cal_policy.proofs.AssuredLemmas.Counting.{count_skip, some_passes, none_passes}
use Rattle.cal_policy.proofs.AssuredLemmas.LastHeld.{untaken_elsewhere}
use Rattle.cal_policy.proofs.BoardLemmas.StateKept.{none_more}
use Rattle.cal_policy.proofs.pass.Pass.is_in_flight.Goals as goal

pub returns-then-has_no_core : goal.returns-then-has_no_core
returns-then-has_no_core c = λ h acts st.
    let s = setting_in c.args.self.now h in
    let x = so_far s acts in
    let p : ℕ → Bool = λ i. is_untaken (kept_now s c.args.thread) c.args.thread (holder_of x i) in
    none_passes p s.table.cores s.table.cores refl (none_untaken (kept_now s c.args.thread) x c.args.thread s.table.cores (sym (c.has_no_core.ensures x st.agrees) ∙ c.if-has_no_core.true))

pub returns-then-has_taken_all : goal.returns-then-has_taken_all
returns-then-has_taken_all c = λ h acts st.
    let s = setting_in c.args.self.now h in
    let x = so_far s acts in
    let p : ℕ → Bool = λ i. is_untaken (kept_now s c.args.thread) c.args.thread (holder_of x i) in
    none_passes p s.table.cores s.table.cores refl (all_taken (kept_now s c.args.thread) x c.args.thread s.table.cores (c.if-has_taken_all.ensures refl h acts st))

-- none among the cores between those that the task had last
between : (rec : Record) (table : Table) (b : Board) (x : List Action) (k task first next : ℕ) → task ≡ owner_of table k → task < MOST_TASKS → next ≤ 128 → first ≤ next →
    Agrees b x → IsReady table b → ((c : ℕ) → first ≤ c → c < next → had_by b.recent task c ≡ false) →
    count_below (λ c. is_untaken rec k (holder_of x c)) first ≡ 0 → count_below (λ c. is_untaken rec k (holder_of x c)) next ≡ 0
between rec table b x k task first next own few high le a ready none e =
    sym (count_skip (λ c. is_untaken rec k (holder_of x c)) first next le
    (λ c from to.
    let P : ℕ → Type 0 = λ t. had_by b.recent t c ≡ false in
    untaken_elsewhere rec table b x k c (omega (arith, own, few)) (omega (arith, to, high)) a ready.recent (subst P own (none c from to))))
    ∙ e

pub loop-core-preserved : goal.loop-core-preserved
loop-core-preserved c = record {
  none = λ h acts st.
      let s = setting_in c.args.self.now h in
      let core = c.in-Some.core in
      let p = c.requires.at_hand in
      let rec = kept_now s c.args.thread in
      let high : core ≤ 128 = omega (arith, c.in-Some.ensures.next.1, p.accepted.machine.most) in
      let few : c.task_of-task.result < MOST_TASKS = omega (arith, c.task_of-task.ensures.is_task, p.accepted.tasks) in
      none_more (λ i. is_untaken rec c.args.thread (holder_of (so_far s acts) i)) core
      (between rec s.table c.args.board.now (so_far s acts) c.args.thread c.task_of-task.result c.loop-core.first core c.task_of-task.ensures.task few high c.in-Some.ensures.next.0
      st.agrees p.ready (λ k from to. sym (c.of-had.ensures k) ∙ c.in-Some.ensures.between k from to) (c.loop-core.invariant.none h acts st))
      (sym (c.is_untaken_on.ensures h acts st) ∙ c.if-is_untaken_on.false);
  first = omega (arith, c.in-Some.ensures.next.1);
}

pub returns-then-is_untaken_on : goal.returns-then-is_untaken_on
returns-then-is_untaken_on c = λ h acts st.
    let s = setting_in c.args.self.now h in
    let p : ℕ → Bool = λ i. is_untaken (kept_now s c.args.thread) c.args.thread (holder_of (so_far s acts) i) in
    some_passes p c.args.self.now.config.now.cores c.in-Some.core c.in-Some.ensures.next.1 (sym (c.is_untaken_on.ensures h acts st) ∙ c.if-is_untaken_on.true)

pub returns : goal.returns
returns c = λ h acts st.
    let s = setting_in c.args.self.now h in
    let p = c.requires.at_hand in
    let rec = kept_now s c.args.thread in
    let high : s.table.cores ≤ 128 = p.accepted.machine.most in
    let few : c.task_of-task.result < MOST_TASKS = omega (arith, c.task_of-task.ensures.is_task, p.accepted.tasks) in
    none_passes (λ i. is_untaken rec c.args.thread (holder_of (so_far s acts) i)) s.table.cores s.table.cores refl
    (between rec s.table c.args.board.now (so_far s acts) c.args.thread c.task_of-task.result c.loop-core.first s.table.cores c.task_of-task.ensures.task few high c.loop-core.invariant.first
    st.agrees p.ready (λ k from to. sym (c.of-had.ensures k) ∙ c.in_default.ensures.none k from to) (c.loop-core.invariant.none h acts st))
