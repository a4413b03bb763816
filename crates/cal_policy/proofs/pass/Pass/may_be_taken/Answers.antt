use Rattle.cal_policy.proofs.Common.{◌≡◌, ◌<◌, ◌&&◌, not, true, false, ap, sym, ◌∙◌, arith, setting_in, is_granted_in, has_room}
use Rattle.cal_policy.proofs.pass.Pass.may_be_taken.Goals as goal

pub returns-then-has_room : goal.returns-then-has_room
returns-then-has_room c = λ h acts st.
    let s = setting_in c.args.self.now h in
    let low : c.args.core < 128 = omega (arith, c.requires.at_hand.accepted.machine.most) in
    let room : has_room s c.args.thread ≡ true = sym (c.has_room.ensures h) ∙ c.if-has_room.true in
    let fresh = not (is_granted_in acts c.args.core) in
    ap not (c.has.ensures ∙ st.fresh.fresh c.args.core low) ∙ sym (ap (λ b. b && fresh) room)

pub returns-else-has_room : goal.returns-else-has_room
returns-else-has_room c = λ h acts st.
    let s = setting_in c.args.self.now h in
    let room : has_room s c.args.thread ≡ false = sym (c.has_room.ensures h) ∙ c.if-has_room.false in
    let fresh = not (is_granted_in acts c.args.core) in
    c.if-has_room.false ∙ sym (ap (λ b. b && fresh) room)
