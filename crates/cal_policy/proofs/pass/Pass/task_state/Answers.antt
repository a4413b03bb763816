use Rattle.cal_policy.proofs.Common.{so_far, setting_in}
use Rattle.cal_policy.proofs.pass.Pass.task_state.Goals as goal

pub returns : goal.returns
returns c = λ h acts st.
    let x = so_far (setting_in c.args.self.now h) acts in
    record {
      delay = c.task_delay.ensures h acts st;
      is_congested = c.is_congested.ensures h acts st;
      held = c.held_by.ensures.held x st.agrees;
      booked = c.booked_by.ensures x st.agrees;
      cap = c.cap_of.ensures x st.agrees;
      may_book = c.may_book.ensures h acts st;
      awaits = c.awaits.ensures h acts st;
    }
