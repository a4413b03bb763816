-- One may be revoked at all by the first and the last test of the rule.
use Rattle.cal_policy.proofs.Common.{◌≡◌, ◌<◌, ◌&&◌, not, Bool, true, false, refl, ap, sym, ◌∙◌, arith, is_latency_critical, so_far, has_room, is_granted_in, none_leaves_for, setting_in}
use Rattle.cal_policy.proofs.PassLemmas.Branches.{outer_hold, outer_fail}
use Rattle.cal_policy.proofs.pass.Pass.may_preempt.Goals as goal

pub returns-then-not-may_preempt_any : goal.returns-then-not-may_preempt_any
returns-then-not-may_preempt_any c = λ h acts s.
    let at = setting_in c.args.self.now h in
    outer_fail (is_latency_critical at.table c.args.task) (has_room at c.args.thread) (not (is_granted_in acts c.args.core))
    (none_leaves_for at (so_far at acts) c.args.task) (c.if-not-may_preempt_any.ensures h acts s.agrees)

pub returns-then-has_room : goal.returns-then-has_room
returns-then-has_room c = λ h acts s.
    let at = setting_in c.args.self.now h in
    let low : c.args.core < 128 = omega (arith, c.requires.at_hand.accepted.machine.most) in
    let fits : has_room at c.args.thread ≡ true = sym (c.has_room.ensures h) ∙ c.if-has_room.true in
    let fresh = not (is_granted_in acts c.args.core) in
    ap not (c.has.ensures ∙ s.fresh.fresh c.args.core low) ∙ sym (ap (λ room. room && fresh) fits)
    ∙ outer_hold (is_latency_critical at.table c.args.task) (has_room at c.args.thread) fresh
    (none_leaves_for at (so_far at acts) c.args.task) (c.if-not-may_preempt_any.ensures h acts s.agrees)

no_room : (a b c d : Bool) → b ≡ false → false ≡ a && b && c && d
no_room true true c d e = cc
no_room true false c d e = refl
no_room false b c d e = refl

pub returns-else-has_room : goal.returns-else-has_room
returns-else-has_room c = λ h acts s.
    let at = setting_in c.args.self.now h in
    c.if-has_room.false ∙ no_room (is_latency_critical at.table c.args.task) (has_room at c.args.thread) (not (is_granted_in acts c.args.core))
    (none_leaves_for at (so_far at acts) c.args.task) (sym (c.has_room.ensures h) ∙ c.if-has_room.false)
