use Rattle.cal_policy.proofs.Common.{◌&&◌, not, ap, sym, ◌∙◌, is_late, setting_in}
use Rattle.cal_policy.proofs.pass.Pass.helps_newly.Goals as goal

pub returns-then-is_new_in_flight : goal.returns-then-is_new_in_flight
returns-then-is_new_in_flight c = λ h acts st.
    let s = setting_in c.args.self.now h in
    ap not (c.is_late.ensures h acts st)
    ∙ sym (ap (λ b. b && not (is_late s c.args.thread)) (sym (c.is_new_in_flight.ensures h acts st) ∙ c.if-is_new_in_flight.true))
