use Rattle.cal_policy.proofs.Common.{so_far, setting_in}
use Rattle.cal_policy.proofs.pass.Pass.shortage_of.Goals as goal

pub returns : goal.returns
returns c = λ h acts st.
    let x = so_far (setting_in c.args.self.now h) acts in
    record {
      some_waits = c.some_waits_short.ensures h acts st;
      open_cores = c.open_cores.ensures x st.agrees;
      lacking = c.lacking.ensures h acts st;
      are_lacked = c.are_lacked.ensures h acts st;
      are_wanted = c.are_wanted.ensures h acts st;
    }
