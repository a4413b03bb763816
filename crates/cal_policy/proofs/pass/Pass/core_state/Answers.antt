use Rattle.cal_policy.proofs.Common.{◌<◌, ◌∙◌, arith, setting_in}
use Rattle.cal_policy.proofs.pass.Pass.core_state.Goals as goal

pub returns-clause-state : goal.returns-clause-state
returns-clause-state c = λ h acts st.
    let low : c.args.core < 128 = omega (arith, c.requires.at_hand.accepted.machine.most, c.requires.core) in
    record {
      holder = st.agrees.holding.holders c.args.core low;
      ban = st.agrees.bans.bans c.args.core low;
      is_granted_now = c.has.ensures ∙ st.fresh.fresh c.args.core low;
      is_left = c.is_left.ensures (setting_in c.args.self.now h) acts st;
    }
