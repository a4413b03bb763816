use Rattle.cal_policy.proofs.Common.{nat_lt, ap, ◌∙◌, coming, setting_in, so_far}
use Rattle.cal_policy.proofs.pass.Pass.fewer_come.Goals as goal

pub returns : goal.returns
returns c = λ h acts st.
    let s = setting_in c.args.self.now h in
    let x = so_far s acts in
    ap (λ n. nat_lt n c.lacks.result) (c.coming.ensures.count h acts st) ∙ ap (nat_lt (coming s x c.args.task)) (c.lacks.ensures.lacks x st.agrees)
