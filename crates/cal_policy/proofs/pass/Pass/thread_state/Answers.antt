use Rattle.std.proofs.Common.{◌<◌, arith}
use Rattle.cal_policy.proofs.pass.Pass.thread_state.Goals as goal

pub returns : goal.returns
returns c = λ h acts st.
    let few : c.args.thread < 128 = omega (arith, c.requires.at_hand.accepted.threads, c.requires.thread) in
    record {
      delay = c.thread_delay.ensures h acts st;
      has_core = c.has_core.ensures h acts st;
      has_room = c.has_room.ensures h;
      new_misses = c.new_misses.ensures h acts st;
      kept = st.looks.kept c.args.thread few;
    }
