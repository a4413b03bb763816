use Rattle.cal_policy.proofs.Common.{ap, arith, Record, sent_to, setting_in, so_far}
use Rattle.cal_policy.proofs.pass.Pass.has_taken_all.Goals as goal

pub returns : goal.returns
returns c = λ yes h acts st.
    let s = setting_in c.args.self.now h in
    let all = c.has_taken.ensures (sent_to (so_far s acts) c.args.thread) (st.agrees.holding.sent c.args.thread c.requires.thread) yes in
    let kept = ap (λ (r : Record). r.taken) (st.looks.kept c.args.thread c.requires.thread) in
    omega (arith, all, kept)
