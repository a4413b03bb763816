-- Held by a thread of the task, whose ring has room.
use Rattle.cal_policy.proofs.Common.{◌≡◌, ◌<◌, ◌==◌, ◌&&◌, Bool, true, false, sym, refl, ◌∙◌, ap, arith, owner_of, so_far, has_room, is_held_with_room, holder_of, is_held_for, setting_in, can_lose, Holder, Held}
use Rattle.cal_policy.proofs.BoardLemmas.AsKept.{loses_as_kept}
use Rattle.cal_policy.proofs.pass.Pass.task_that_can_lose.Goals as goal

and_true : (b : Bool) → (b && true) ≡ b
and_true true = refl
and_true false = refl

and_false : (b : Bool) → (b && false) ≡ false
and_false true = refl
and_false false = refl

pub returns-then-has_room-clause-lose : goal.returns-then-has_room-clause-lose
returns-then-has_room-clause-lose c = λ h acts st t.
    let s = setting_in c.args.self.now h in
    let x = so_far s acts in
    let low : c.args.core < 128 = omega (arith, c.requires.at_hand.accepted.machine.most) in
    let room : has_room s c.in-Held.placement.thread ≡ true = sym (c.has_room.ensures h) ∙ c.if-has_room.true in
    let can : Holder → Bool = λ one. is_held_for s.table t one && is_held_with_room s one in
    let held : can (Held c.in-Held.placement) ≡ can_lose s x t c.args.core =
    ap can (sym c.in-Held.is ∙ st.agrees.holding.holders c.args.core low) ∙ loses_as_kept s t (holder_of x c.args.core) in
    sym held ∙ rw (room, ← c.task_of.ensures.task) (and_true (c.task_of.result == t))

pub returns-else-has_room-clause-lose : goal.returns-else-has_room-clause-lose
returns-else-has_room-clause-lose c = λ h acts st t.
    let s = setting_in c.args.self.now h in
    let x = so_far s acts in
    let low : c.args.core < 128 = omega (arith, c.requires.at_hand.accepted.machine.most) in
    let room : has_room s c.in-Held.placement.thread ≡ false = sym (c.has_room.ensures h) ∙ c.if-has_room.false in
    let can : Holder → Bool = λ one. is_held_for s.table t one && is_held_with_room s one in
    let held : can (Held c.in-Held.placement) ≡ can_lose s x t c.args.core =
    ap can (sym c.in-Held.is ∙ st.agrees.holding.holders c.args.core low) ∙ loses_as_kept s t (holder_of x c.args.core) in
    sym held ∙ rw room (and_false (owner_of s.table c.in-Held.placement.thread == t))
