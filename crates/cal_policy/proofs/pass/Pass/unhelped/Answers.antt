use Rattle.cal_policy.proofs.Common.{◌≡◌, ℕ, ◌-◌, nat_lt, ap, sym, ◌∙◌, arith, nat_tests, pressing, surplus, setting_in, so_far}
use Rattle.cal_policy.proofs.pass.Pass.unhelped.Goals as goal

none_beyond : (n : ℕ) → 0 ≡ 0 - n
none_beyond n = omega arith

none_below : (n : ℕ) → nat_lt 0 0 ≡ nat_lt n 0
none_below n = grind (arith, nat_tests)

some_beyond : (p n : ℕ) → nat_lt 0 (p - n) ≡ nat_lt n p
some_beyond p n = grind (arith, nat_tests)

pub returns-then-pressing-eq0-clause-count : goal.returns-then-pressing-eq0-clause-count
returns-then-pressing-eq0-clause-count c = λ h acts st.
    let s = setting_in c.args.self.now h in
    let few = surplus s (so_far s acts) c.args.task in
    none_beyond few ∙ ap (λ p. p - few) (sym c.if-pressing-eq0.true ∙ c.pressing-pressing.ensures h acts st)

pub returns-then-pressing-eq0-clause-some : goal.returns-then-pressing-eq0-clause-some
returns-then-pressing-eq0-clause-some c = λ h acts st.
    let s = setting_in c.args.self.now h in
    let few = surplus s (so_far s acts) c.args.task in
    none_below few ∙ ap (nat_lt few) (sym c.if-pressing-eq0.true ∙ c.pressing-pressing.ensures h acts st)

pub returns-clause-count : goal.returns-clause-count
returns-clause-count c = λ h acts st.
    let s = setting_in c.args.self.now h in
    c.saturating_sub.ensures
    ∙ ap (λ p. p - c.surplus-surplus.result) (c.pressing-pressing.ensures h acts st)
    ∙ ap (λ n. pressing s (so_far s acts) c.args.task - n) (c.surplus-surplus.ensures.count h acts st)

pub returns-clause-some : goal.returns-clause-some
returns-clause-some c = λ h acts st.
    let s = setting_in c.args.self.now h in
    let x = so_far s acts in
    ap (nat_lt 0) (c.saturating_sub.ensures
    ∙ ap (λ p. p - c.surplus-surplus.result) (c.pressing-pressing.ensures h acts st)
    ∙ ap (λ n. pressing s x c.args.task - n) (c.surplus-surplus.ensures.count h acts st))
    ∙ some_beyond (pressing s x c.args.task) (surplus s x c.args.task)
