use Rattle.cal_policy.proofs.Common.{arith, next_le, setting_in}
use Rattle.cal_policy.proofs.AssuredLemmas.Waiting.{calm_task}
use Rattle.cal_policy.proofs.pass.Pass.none_waits.Goals as goal

pub returns-in-None-clause-waits : goal.returns-in-None-clause-waits
returns-in-None-clause-waits c = λ yes h acts st t lt.
    let s = setting_in c.args.self.now h in
    let p = c.requires.at_hand in
    let end = next_le s.table.tasks t lt in
    calm_task c.args.board.now s acts st p.ready.keeping t (omega (arith, end, p.accepted.threads))
    (λ j x y. c.in-None.ensures.none j (omega arith) (omega (arith, y, end, c.threads.ensures.count)))
