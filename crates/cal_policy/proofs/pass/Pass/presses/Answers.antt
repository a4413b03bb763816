use Rattle.cal_policy.proofs.Common.{◌&&◌, not, ap, sym, ◌∙◌, is_in_flight, setting_in, so_far}
use Rattle.cal_policy.proofs.pass.Pass.presses.Goals as goal

pub returns-then-is_late : goal.returns-then-is_late
returns-then-is_late c = λ h acts st.
    let s = setting_in c.args.self.now h in
    ap not (c.is_in_flight.ensures h acts st)
    ∙ sym (ap (λ b. b && not (is_in_flight s (so_far s acts) c.args.thread)) (sym (c.is_late.ensures h acts st) ∙ c.if-is_late.true))

pub returns-else-is_late : goal.returns-else-is_late
returns-else-is_late c = λ h acts st.
    let s = setting_in c.args.self.now h in
    c.if-is_late.false
    ∙ sym (ap (λ b. b && not (is_in_flight s (so_far s acts) c.args.thread)) (sym (c.is_late.ensures h acts st) ∙ c.if-is_late.false))
