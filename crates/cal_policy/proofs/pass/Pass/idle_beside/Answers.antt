-- The idle cores between those beside a held one are beside none of the task's.
use Rattle.cal_policy.proofs.Common.{◌≡◌, ℕ, ◌<◌, ◌≤◌, Bool, List, None, true, false, refl, ap, sym, ◌∙◌, arith, has, sibling_of, pairs, Action, Board, holder_of, holder_in, is_held_for, lowest_below, is_beside_own, IsOfTable, Agrees}
use Rattle.cal_policy.specs.declared.pass.Pass.{Pass}
use Rattle.cal_policy.proofs.BoardLemmas.AsKept.{held_as_kept}
use Rattle.cal_policy.proofs.ListLemmas.Counted.{lowest_past}
use Rattle.cal_policy.proofs.PassLemmas.Bandwidth.{lowest_none, lowest_found}
use Rattle.cal_policy.proofs.PassLemmas.IdleCores.{not_beside, idle_beside_held, both_parts, fails}
use Rattle.cal_policy.proofs.pass.Pass.idle_beside.Goals as goal

-- none up to the next such core
past : (pass : Pass) (b : Board) (x : List Action) (task first next : ℕ) → IsOfTable pass.config.now b → Agrees b x → first ≤ next → next ≤ pass.config.now.cores →
    lowest_below (is_beside_own b.open_cores.idle pass.config.now x task) first ≡ None →
    ((k : ℕ) → first ≤ k → k < next → has b.open_cores.beside_held k ≡ false) →
    lowest_below (is_beside_own b.open_cores.idle pass.config.now x task) next ≡ None
past pass b x task first next p a from to none between =
    let few = p.accepted.machine.most in
    lowest_past (is_beside_own b.open_cores.idle pass.config.now x task) first next from none
    (λ k le lt. not_beside b pass.config.now x task k (omega (arith, lt, to, few))
    (omega (arith, (pairs pass.config.now.cores k p.accepted.machine (omega (arith, lt, to))).0, few)) a p.ready.opens (between k le lt))

by_test : (holds : Bool) (held : ℕ) → held ≡ 0 → (holds ≡ true → 0 < held) → holds ≡ false
by_test true held zero some = absurd (omega (arith, zero, some refl))
by_test false held zero some = refl

-- a task that holds no core holds none beside an idle one
none_held : (pass : Pass) (b : Board) (x : List Action) (task held : ℕ) → IsOfTable pass.config.now b → Agrees b x → held ≡ 0 →
    ((core : ℕ) → core < pass.config.now.cores → is_held_for pass.config.now task (holder_in b.holding core) ≡ true → 0 < held) →
    lowest_below (is_beside_own b.open_cores.idle pass.config.now x task) pass.config.now.cores ≡ None
none_held pass b x task held p a zero some =
    let table = pass.config.now in
    lowest_past (is_beside_own b.open_cores.idle table x task) 0 table.cores (omega arith) refl
    (λ k le lt.
    let low = (pairs table.cores k p.accepted.machine lt).0 in
    let h = holder_of x (sibling_of k) in
    let kept : is_held_for table task (holder_in b.holding (sibling_of k)) ≡ is_held_for table task h =
    ap (is_held_for table task) (a.holding.holders (sibling_of k) (omega (arith, low, p.accepted.machine.most))) ∙ held_as_kept table task h in
    fails (has b.open_cores.idle k) _ (by_test (is_held_for table task h) held zero (λ is. some (sibling_of k) low (kept ∙ is))))

pub loop-core-preserved : goal.loop-core-preserved
loop-core-preserved c = record {
  none = λ x a.
      let b = c.args.board.now in
      let core = c.in-Some.core in
      let table = c.args.self.now.config.now in
      lowest_none (is_beside_own b.open_cores.idle table x c.args.task) core
      (past c.args.self.now b x c.args.task c.loop-core.from core c.requires.at_hand a c.in-Some.ensures.next.0 (omega (arith, c.in-Some.ensures.next.1))
      (c.loop-core.invariant.none x a) c.in-Some.ensures.between)
      (fails (has b.open_cores.idle core) _ (sym (c.if-holds_beside.ensures x a)));
  first = omega (arith, c.in-Some.ensures.next.1);
}

pub returns-then-holds_beside-clause-lowest : goal.returns-then-holds_beside-clause-lowest
returns-then-holds_beside-clause-lowest c = λ x a.
    let b = c.args.board.now in
    let core = c.in-Some.core in
    let table = c.args.self.now.config.now in
    let low : core < 128 = omega (arith, c.requires.at_hand.accepted.machine.most, c.in-Some.ensures.next.1) in
    sym (lowest_found (is_beside_own b.open_cores.idle table x c.args.task) core table.cores c.in-Some.ensures.next.1
    (past c.args.self.now b x c.args.task c.loop-core.from core c.requires.at_hand a c.in-Some.ensures.next.0 (omega (arith, c.in-Some.ensures.next.1))
    (c.loop-core.invariant.none x a) c.in-Some.ensures.between)
    (both_parts (has b.open_cores.idle core) _ (idle_beside_held b core low c.requires.at_hand.ready.opens c.in-Some.ensures.member)
    (sym (c.if-holds_beside.ensures x a))))

pub returns-clause-lowest : goal.returns-clause-lowest
returns-clause-lowest c = λ x a.
    sym (past c.args.self.now c.args.board.now x c.args.task c.loop-core.from c.args.self.now.config.now.cores c.requires.at_hand a c.loop-core.invariant.first (omega arith)
    (c.loop-core.invariant.none x a) c.in_default.ensures.none)

pub returns-then-held_by-eq0-clause-lowest : goal.returns-then-held_by-eq0-clause-lowest
returns-then-held_by-eq0-clause-lowest c = λ x a.
    sym (none_held c.args.self.now c.args.board.now x c.args.task c.held_by.result c.requires.at_hand a c.if-held_by-eq0.true c.held_by.ensures.some)
