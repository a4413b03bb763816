use Rattle.cal_policy.proofs.Common.{◌≡◌, ◌<◌, Some, None, ap, sym, ◌∙◌, arith, owed_to, is_short, is_kept_for, is_kept_for_short, setting_in, so_far}
use Rattle.cal_policy.proofs.AssuredLemmas.Keeping.{kept_none}
use Rattle.cal_policy.proofs.PassLemmas.Branches.{when_true, when_false}
use Rattle.cal_policy.proofs.pass.Pass.is_kept.Goals as goal

pub returns-in_default : goal.returns-in_default
returns-in_default c = λ h acts st.
    let s = setting_in c.args.self.now h in
    let x = so_far s acts in
    let low : c.args.core < 128 = omega arith in
    let owed : owed_to x c.args.core ≡ None = sym (st.agrees.debts.owed c.args.core low) ∙ c.in_default.is in
    rw owed (kept_none (is_short s.table x c.args.task))

pub returns-then-is_short : goal.returns-then-is_short
returns-then-is_short c = λ h acts st.
    let s = setting_in c.args.self.now h in
    let x = so_far s acts in
    let low : c.args.core < 128 = omega arith in
    let owed : owed_to x c.args.core ≡ Some c.in-Some.other = sym (st.agrees.debts.owed c.args.core low) ∙ c.in-Some.is in
    c.is_kept_for_short.ensures h acts st ∙ ap (is_kept_for_short s x c.args.task c.args.core) (sym owed)
    ∙ when_true (is_short s.table x c.args.task) _ _ (sym c.if-is_short.true ∙ c.is_short.ensures x st.agrees)

pub returns-else-is_short : goal.returns-else-is_short
returns-else-is_short c = λ h acts st.
    let s = setting_in c.args.self.now h in
    let x = so_far s acts in
    let low : c.args.core < 128 = omega arith in
    let owed : owed_to x c.args.core ≡ Some c.in-Some.other = sym (st.agrees.debts.owed c.args.core low) ∙ c.in-Some.is in
    c.is_kept_for.ensures h acts st ∙ ap (is_kept_for s x c.args.task) (sym owed)
    ∙ when_false (is_short s.table x c.args.task) _ _ (sym c.if-is_short.false ∙ c.is_short.ensures x st.agrees)
