-- Held by a thread whose ring has room, and whose task is over.
use Rattle.cal_policy.proofs.Common.{◌≡◌, ◌<◌, true, false, sym, refl, ◌∙◌, ap, arith, so_far, has_room, holder_of, setting_in, may_be_emptied, Held}
use Rattle.cal_policy.proofs.BoardLemmas.AsKept.{emptied_as_kept}
use Rattle.cal_policy.proofs.pass.Pass.may_be_emptied.Goals as goal

pub returns-then-has_room : goal.returns-then-has_room
returns-then-has_room c = λ h acts st.
    let s = setting_in c.args.self.now h in
    let x = so_far s acts in
    let low : c.args.core < 128 = omega (arith, c.requires.at_hand.accepted.machine.most) in
    let room : has_room s c.in-Held.placement.thread ≡ true = sym (c.has_room.ensures h) ∙ c.if-has_room.true in
    let held : may_be_emptied s x (Held c.in-Held.placement) ≡ may_be_emptied s x (holder_of x c.args.core) =
    ap (may_be_emptied s x) (sym c.in-Held.is ∙ st.agrees.holding.holders c.args.core low) ∙ emptied_as_kept s x (holder_of x c.args.core) in
    rw (← held, room) (c.is_over.ensures x st.agrees ∙ rw c.task_of-task.ensures.task refl)

pub returns-else-has_room : goal.returns-else-has_room
returns-else-has_room c = λ h acts st.
    let s = setting_in c.args.self.now h in
    let x = so_far s acts in
    let low : c.args.core < 128 = omega (arith, c.requires.at_hand.accepted.machine.most) in
    let room : has_room s c.in-Held.placement.thread ≡ false = sym (c.has_room.ensures h) ∙ c.if-has_room.false in
    let held : may_be_emptied s x (Held c.in-Held.placement) ≡ may_be_emptied s x (holder_of x c.args.core) =
    ap (may_be_emptied s x) (sym c.in-Held.is ∙ st.agrees.holding.holders c.args.core low) ∙ emptied_as_kept s x (holder_of x c.args.core) in
    rw (← held, room) c.if-has_room.false
