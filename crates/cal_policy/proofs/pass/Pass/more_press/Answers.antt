use Rattle.cal_policy.proofs.Common.{◌≡◌, ℕ, ◌+◌, ◌-◌, nat_lt, ap, ◌∙◌, arith, nat_tests, pressing, coming, surplus, setting_in, so_far}
use Rattle.cal_policy.proofs.pass.Pass.more_press.Goals as goal

-- fewer come than press beyond the helped
below_rest : (c n p : ℕ) → nat_lt c (p - n) ≡ nat_lt (c + n) p
below_rest c n p = grind (arith, nat_tests)

pub returns : goal.returns
returns c = λ h acts st is.
    let s = setting_in c.args.self.now h in
    let x = so_far s acts in
    let t = c.args.task in
    ap (λ n. nat_lt n c.args.unhelped) (c.coming.ensures.count h acts st)
    ∙ ap (nat_lt (coming s x t)) is
    ∙ below_rest (coming s x t) (surplus s x t) (pressing s x t)
