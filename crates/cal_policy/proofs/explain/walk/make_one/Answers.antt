use Rattle.cal_policy.specs.Setting.{so_far}
use Rattle.cal_policy.proofs.PassLemmas.FromParts.{Stands_push}
use Rattle.cal_policy.proofs.explain.walk.make_one.Goals as goal

pub returns-in_ok-push-clause-stands : goal.returns-in_ok-push-clause-stands
returns-in_ok-push-clause-stands c = λ s st.
    rw c.in_ok-push.ensures.items (Stands_push c.args.board.now c.apply.new.self s c.args.made.now.items c.in-Some.action
    (c.apply.ensures.agrees (so_far s c.args.made.now.items) st.agrees) (c.apply.ensures.fresh c.args.made.now.items st.fresh) c.apply.ensures.keeping st)
