-- The thread neither holds nor leaves a core, as the counts say, and its ring has room.
use Rattle.cal_policy.proofs.Common.{◌≡◌, ◌<◌, ℕ, Bool, true, false, ◌&&◌, cond, eqb, get_or, Some, None, refl, ap, sym, ◌∙◌, arith, nat_tests, so_far, has_room, cores_of_thread, setting_in}
use Rattle.cal_policy.proofs.PassLemmas.Branches.{when_not_second}
use Rattle.cal_policy.proofs.pass.Pass.thread_rank.Goals as goal
use Rattle.cal_policy.proofs.pass.Pass.thread_rank.Goals.{else-has_none-via-then-has_none+else-has_room, else-has_none-via-else-has_none}

may_have : (n had : ℕ) (room : Bool) (delay : ℕ) → had ≡ n → eqb had 0 ≡ true → room ≡ true → Some delay ≡ cond (eqb n 0 && room) (Some delay) None
may_have n had room delay e f g = rw (← e, f, g) refl

pub returns-then-has_room : goal.returns-then-has_room
returns-then-has_room c = λ h acts s.
    let at = setting_in c.args.self.now h in
    let room : has_room at c.args.thread ≡ true = sym (c.has_room.ensures h) ∙ c.if-has_room.true in
    let none : eqb (get_or c.survey_of-survey.result.now.placed c.args.thread 0) 0 ≡ true = grind (arith, nat_tests) in
    let few : c.args.thread < 128 = omega (arith, c.requires.at_hand.accepted.threads, c.requires.thread) in
    ap (λ d. Some d) (c.from.ensures ∙ c.thread_delay.ensures h acts s)
    ∙ may_have (cores_of_thread c.args.self.now.config.now (so_far at acts) c.args.thread) _ _ _ ((c.survey_of-survey.ensures (so_far at acts) s.agrees).placed c.args.thread few) none room

no_room : (n : ℕ) (room : Bool) (delay : ℕ) → room ≡ false → None ≡ cond (eqb n 0 && room) (Some delay) None
no_room n room delay e = when_not_second (eqb n 0) room (Some delay) None (sym e)

has_one : (n had : ℕ) (room : Bool) (delay : ℕ) → had ≡ n → eqb had 0 ≡ false → None ≡ cond (eqb n 0 && room) (Some delay) None
has_one n had room delay e f = rw (← e, f) refl

pub returns-else-has_none : goal.returns-else-has_none
returns-else-has_none c = λ h acts s.
    let at = setting_in c.args.self.now h in
    let few : c.args.thread < 128 = omega (arith, c.requires.at_hand.accepted.threads, c.requires.thread) in
    elim c.else-has_none.branch [
      | else-has_none-via-then-has_none+else-has_room w ↦
          no_room (cores_of_thread c.args.self.now.config.now (so_far at acts) c.args.thread) _ _ (sym (w.has_room.ensures h) ∙ w.if-has_room.false)
      | else-has_none-via-else-has_none w ↦
          let some : eqb (get_or c.survey_of-survey.result.now.placed c.args.thread 0) 0 ≡ false = grind (arith, nat_tests, w.if-has_none.false) in
          has_one (cores_of_thread c.args.self.now.config.now (so_far at acts) c.args.thread) _ _ _ ((c.survey_of-survey.ensures (so_far at acts) s.agrees).placed c.args.thread few) some
    ]
