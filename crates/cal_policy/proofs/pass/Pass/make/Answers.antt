use Rattle.cal_policy.specs.Setting.{so_far}
use Rattle.cal_policy.proofs.PassLemmas.FromParts.{Stands_push}
use Rattle.cal_policy.proofs.pass.Pass.make.Goals as goal

pub returns-in-Some-clause-stands : goal.returns-in-Some-clause-stands
returns-in-Some-clause-stands c = λ s st.
    rw c.push.ensures (Stands_push c.args.board.now c.apply.new.self s c.args.out.now c.in-Some.action
    (c.apply.ensures.agrees (so_far s c.args.out.now) st.agrees) (c.apply.ensures.fresh c.args.out.now st.fresh) c.apply.ensures.keeping st)
