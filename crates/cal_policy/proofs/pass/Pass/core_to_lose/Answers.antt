use Rattle.std.proofs.Common.{◌<◌, arith}
use Rattle.cal_policy.proofs.pass.Pass.core_to_lose.Goals as goal

pub returns : goal.returns
returns c = λ h acts st.
    let few : c.args.task < 16 = omega (arith, c.requires.at_hand.accepted.tasks, c.requires.task) in
    c.cores_to_lose-highest.ensures.lose h acts st c.args.task few
