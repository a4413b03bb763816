use Rattle.cal_policy.proofs.Common.{◌≡◌, ◌<◌, None, sym, ◌∙◌, arith, owed_to, is_short, setting_in, so_far}
use Rattle.cal_policy.proofs.AssuredLemmas.Keeping.{kept_none}
use Rattle.cal_policy.proofs.pass.Pass.keeping_of.Goals as goal

pub returns-in_default : goal.returns-in_default
returns-in_default c = λ h acts st.
    let s = setting_in c.args.self.now h in
    let x = so_far s acts in
    let low : c.args.core < 128 = omega arith in
    let owed : owed_to x c.args.core ≡ None = sym (st.agrees.debts.owed c.args.core low) ∙ c.in_default.is in record {
      kept = rw owed (sym (kept_none (is_short s.table x c.args.task)));
      fact = tt;
    }

pub returns-then-is_kept : goal.returns-then-is_kept
returns-then-is_kept c = λ h acts st.
    let s = setting_in c.args.self.now h in
    let x = so_far s acts in
    let low : c.args.core < 128 = omega arith in record {
      kept = sym (c.if-is_kept.ensures h acts st);
      fact = sym (st.agrees.debts.owed c.args.core low) ∙ c.in-Some.is;
    }

pub returns-else-is_kept : goal.returns-else-is_kept
returns-else-is_kept c = λ h acts st. record {
  kept = sym (c.if-is_kept.ensures h acts st);
  fact = tt;
}
