use Rattle.cal_policy.proofs.Common.{not, eqb, refl, setting_in, so_far}
use Rattle.cal_policy.proofs.AssuredLemmas.Counting.{waits_past}
use Rattle.cal_policy.proofs.AssuredLemmas.Keeping.{second_fails}
use Rattle.cal_policy.proofs.pass.Pass.is_kept_for.Goals as goal

pub returns-then-not-has_task : goal.returns-then-not-has_task
returns-then-not-has_task c = λ h acts st.
    let s = setting_in c.args.self.now h in
    second_fails (not (eqb c.args.other c.args.task)) _ (waits_past s (so_far s acts) c.args.other (c.if-not-has_task.ensures.past refl))
