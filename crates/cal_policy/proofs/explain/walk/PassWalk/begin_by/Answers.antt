-- The state that the passes leave is the one on which the pass begins.
use Rattle.std.proofs.lemmas.Result.{IfOk-weaker}
use Rattle.cal_policy.proofs.explain.walk.PassWalk.begin_by.Goals as goal

pub returns-clause-begun : goal.returns-clause-begun
returns-clause-begun c = IfOk-weaker c.begin_after.result _ _
    (λ walk begins. begins c.args.history.now (record { actions = c.board_of-state.ensures.agrees; looks = c.board_of-state.ensures.keeping }) c.requires.input)
    c.begin_after.ensures.begun

pub returns-clause-setting : goal.returns-clause-setting
returns-clause-setting c = IfOk-weaker c.begin_after.result _ _ (λ walk same. same c.args.history.now) c.begin_after.ensures.setting
