-- The cores between those that the task had last are none of them.
use Rattle.cal_policy.proofs.Common.{◌≡◌, ℕ, ◌<◌, ◌≤◌, List, None, false, sym, ◌∙◌, arith, and_right, has, Action, Board, had_by, lowest_below, was_own_last, Agrees, IsOfTable, Table, MOST_TASKS}
use Rattle.cal_policy.proofs.BoardLemmas.RecentCores.{recent_says}
use Rattle.cal_policy.proofs.ListLemmas.Counted.{lowest_past}
use Rattle.cal_policy.proofs.PassLemmas.Bandwidth.{lowest_none, lowest_found}
use Rattle.cal_policy.proofs.PassLemmas.IdleCores.{both_parts, none_where}
use Rattle.cal_policy.proofs.pass.Pass.idle_again.Goals as goal

-- none up to the next core that the task had last
past : (table : Table) (b : Board) (x : List Action) (task first next : ℕ) → IsOfTable table b → Agrees b x → task < MOST_TASKS → next ≤ 128 → first ≤ next →
    lowest_below (was_own_last b.open_cores.idle table x task) first ≡ None →
    ((k : ℕ) → first ≤ k → k < next → had_by b.recent task k ≡ false) →
    lowest_below (was_own_last b.open_cores.idle table x task) next ≡ None
past table b x task first next of a lt high from none between = lowest_past (was_own_last b.open_cores.idle table x task) first next from none
    (λ k le low. and_right (has b.open_cores.idle k) _
    (sym (recent_says table b x task k lt (omega (arith, low, high)) a of.ready.recent) ∙ between k le low))

pub loop-core-preserved : goal.loop-core-preserved
loop-core-preserved c = record {
  none = λ x a.
      let b = c.args.board.now in
      let table = c.args.self.now.config.now in
      let core = c.in-Some.core in
      let few : c.args.task < MOST_TASKS = omega (arith, c.requires.task, c.limits.ensures.tasks) in
      let high : core ≤ 128 = omega (arith, c.in-Some.ensures.next.1, c.limits.ensures.machine.most) in
      lowest_none (was_own_last b.open_cores.idle table x c.args.task) core
      (past table b x c.args.task c.loop-core.first core c.requires.at_hand a few high c.in-Some.ensures.next.0 (c.loop-core.invariant.none x a)
      (λ k le low. sym (c.of-had.ensures k) ∙ c.in-Some.ensures.between k le low))
      (none_where (has b.open_cores.idle core) _ (sym c.has.ensures ∙ c.if-has.false));
  first = omega (arith, c.in-Some.ensures.next.1);
}

pub returns-then-has-clause-lowest : goal.returns-then-has-clause-lowest
returns-then-has-clause-lowest c = λ x a.
    let b = c.args.board.now in
    let table = c.args.self.now.config.now in
    let core = c.in-Some.core in
    let few : c.args.task < MOST_TASKS = omega (arith, c.requires.task, c.limits.ensures.tasks) in
    let high : core ≤ 128 = omega (arith, c.in-Some.ensures.next.1, c.limits.ensures.machine.most) in
    let low : core < 128 = omega (arith, c.in-Some.ensures.next.1, c.limits.ensures.machine.most) in
    sym (lowest_found (was_own_last b.open_cores.idle table x c.args.task) core table.cores c.in-Some.ensures.next.1
    (past table b x c.args.task c.loop-core.first core c.requires.at_hand a few high c.in-Some.ensures.next.0 (c.loop-core.invariant.none x a)
    (λ k le under. sym (c.of-had.ensures k) ∙ c.in-Some.ensures.between k le under))
    (both_parts (has b.open_cores.idle core) _ (sym c.has.ensures ∙ c.if-has.true)
    (sym (recent_says table b x c.args.task core few low a c.requires.at_hand.ready.recent) ∙ sym (c.of-had.ensures core) ∙ c.in-Some.ensures.member)))

pub returns-clause-lowest : goal.returns-clause-lowest
returns-clause-lowest c = λ x a.
    let table = c.args.self.now.config.now in
    let few : c.args.task < MOST_TASKS = omega (arith, c.requires.task, c.limits.ensures.tasks) in
    let high : table.cores ≤ 128 = omega (arith, c.limits.ensures.machine.most) in
    sym (past table c.args.board.now x c.args.task c.loop-core.first table.cores c.requires.at_hand a few high c.loop-core.invariant.first
    (c.loop-core.invariant.none x a) (λ k le low. sym (c.of-had.ensures k) ∙ c.in_default.ensures.none k le low))
