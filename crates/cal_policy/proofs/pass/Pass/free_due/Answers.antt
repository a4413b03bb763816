use Rattle.cal_policy.proofs.Common.{sym, ◌∙◌, holder_of, so_far, kept_now, setting_in, shows_left}
use Rattle.cal_policy.proofs.PassLemmas.Branches.{when_true, when_false}
use Rattle.cal_policy.proofs.pass.Pass.free_due.Goals as goal

pub returns-then-is_left-clause-due : goal.returns-then-is_left-clause-due
returns-then-is_left-clause-due c = λ h acts st.
    let s = setting_in c.args.self.now h in
    when_true (shows_left (kept_now s) (holder_of (so_far s acts) c.args.core)) _ _ (sym c.if-is_left.true ∙ c.is_left.ensures s acts st)

pub returns-else-is_left-clause-due : goal.returns-else-is_left-clause-due
returns-else-is_left-clause-due c = λ h acts st.
    let s = setting_in c.args.self.now h in
    when_false (shows_left (kept_now s) (holder_of (so_far s acts) c.args.core)) _ _ (sym c.if-is_left.false ∙ c.is_left.ensures s acts st)
