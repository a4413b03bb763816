-- The core is not banned.
use Rattle.cal_policy.proofs.Common.{◌≡◌, ◌<◌, false, Some, ap, sym, ◌∙◌, arith, is_some, is_banned}
use Rattle.cal_policy.proofs.pass.Pass.free_class.Goals as goal

pub returns-in-None : goal.returns-in-None
returns-in-None c = λ x a.
    let low : c.args.core < 128 = omega arith in
    let free : is_banned x c.args.core ≡ false = ap is_some (sym (a.bans.bans c.args.core low) ∙ c.in-None.is) in
    rw free (ap (λ n. Some n) (c.class_if_idle.ensures x a))
