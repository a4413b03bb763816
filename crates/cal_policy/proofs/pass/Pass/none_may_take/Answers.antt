use Rattle.cal_policy.proofs.Common.{◌≡◌, Bool, true, false, not, refl, setting_in, so_far}
use Rattle.cal_policy.proofs.AssuredLemmas.NoneToTake.{none_to_take}
use Rattle.cal_policy.proofs.pass.Pass.none_may_take.Goals as goal

is_not : (b : Bool) → not b ≡ true → b ≡ false
is_not true e = cc
is_not false e = refl

pub returns-then-none_is_open : goal.returns-then-none_is_open
returns-then-none_is_open c = λ yes h acts st task.
    let s = setting_in c.args.self.now h in
    let p = c.requires.at_hand in
    none_to_take c.args.board.now s acts task p.accepted.machine.most st p.ready (c.if-none_is_open.ensures refl)
    (λ other below. c.some_is_over.ensures.secure (is_not _ yes) (so_far s acts) st.agrees other below)
