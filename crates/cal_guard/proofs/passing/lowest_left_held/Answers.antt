-- The cores between the banned ones are not left held.
use Rattle.cal_guard.proofs.Common.{◌≡◌, ℕ, ◌<◌, ◌≤◌, ◌&&◌, zero, suc, not, Bool, false, None, List, Option, refl, ap, sym, subst, ◌∙◌, arith, ⊎_elim, cases_lt, Action, Board, Agrees, is_held, holder_of, lowest_below}
use Rattle.cal_machine.specs.CoreSet.{has}
use Rattle.cal_policy.proofs.PassLemmas.Bandwidth.{lowest_none, lowest_found}
use Rattle.cal_guard.specs.Refusals as refusals
use Rattle.cal_guard.proofs.passing.lowest_left_held.Goals as goal

none_past : (p : ℕ → Bool) (m n : ℕ) → m ≤ n → lowest_below p m ≡ None → ((k : ℕ) → m ≤ k → k < n → p k ≡ false) → lowest_below p n ≡ None
none_past p m zero le e none =
    let same : m ≡ 0 = omega (arith, le) in
    let P : ℕ → Type 0 = λ k. lowest_below p k ≡ None in
    subst P same e
none_past p m (suc n) le e none = ⊎_elim
    (λ l. rw (none_past p m n (omega (arith, l)) e (λ k a b. none k a (omega (arith, b))), none n (omega (arith, l)) (omega arith)) refl)
    (λ g.
    let same : m ≡ suc n = omega (arith, g, le) in
    let P : ℕ → Type 0 = λ k. lowest_below p k ≡ None in
    subst P same e)
    (cases_lt m (suc n))

-- a core that is not banned is not left held
not_banned : (b : Board) (x : List Action) (revoked : Option ℕ) (c : ℕ) → c < 128 → Agrees b x → has b.sets.banned c ≡ false → refusals.is_left_held x revoked c ≡ false
not_banned b x revoked c lt a e = ap (λ w. w && is_held (holder_of x c) && not (refusals.is_core c revoked)) (sym (a.banned.banned c lt) ∙ e)

pub loop-core-preserved : goal.loop-core-preserved
loop-core-preserved c = record {
  none = λ x agrees.
      let p : ℕ → Bool = refusals.is_left_held x c.args.revoked in
      let core = c.in-Some.core in
      let below = c.in-Some.ensures.next.1 in
      let most = c.limits.ensures.machine.most in
      lowest_none p core
      (none_past p c.loop-core.first core c.in-Some.ensures.next.0 (c.loop-core.invariant.none x agrees)
      (λ k a b. not_banned c.args.board.now x c.args.revoked k (omega (arith, b, below, most)) agrees (c.in-Some.ensures.between k a b)))
      (sym (c.is_left_held.ensures x agrees) ∙ c.if-is_left_held.false);
  first = omega (arith, c.in-Some.ensures.next.1);
}

pub returns-then-is_left_held : goal.returns-then-is_left_held
returns-then-is_left_held c = λ x agrees.
    let p : ℕ → Bool = refusals.is_left_held x c.args.revoked in
    let core = c.in-Some.core in
    let below = c.in-Some.ensures.next.1 in
    let most = c.limits.ensures.machine.most in
    sym (lowest_found p core c.args.config.now.cores below
    (none_past p c.loop-core.first core c.in-Some.ensures.next.0 (c.loop-core.invariant.none x agrees)
    (λ k a b. not_banned c.args.board.now x c.args.revoked k (omega (arith, b, below, most)) agrees (c.in-Some.ensures.between k a b)))
    (sym (c.is_left_held.ensures x agrees) ∙ c.if-is_left_held.true))

pub returns : goal.returns
returns c = λ x agrees.
    let p : ℕ → Bool = refusals.is_left_held x c.args.revoked in
    let most = c.limits.ensures.machine.most in
    sym (none_past p c.loop-core.first c.args.config.now.cores c.loop-core.invariant.first (c.loop-core.invariant.none x agrees)
    (λ k a b. not_banned c.args.board.now x c.args.revoked k (omega (arith, b, most)) agrees (c.in_default.ensures.none k a b)))
