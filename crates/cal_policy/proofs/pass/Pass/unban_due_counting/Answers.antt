use Rattle.cal_policy.proofs.Common.{◌≡◌, ◌<◌, true, sym, ◌∙◌, arith, ban_of, give_way, setting_in, so_far}
use Rattle.cal_policy.proofs.PassLemmas.Pairs.{ends_giving}
use Rattle.cal_policy.proofs.pass.Pass.unban_due_counting.Goals as goal

pub returns-then-give_way-clause-due : goal.returns-then-give_way-clause-due
returns-then-give_way-clause-due c = λ h acts st known.
    let p = c.args.self.now.terms.now.policy in
    let s = setting_in c.args.self.now h in
    let x = so_far s acts in
    let low : c.args.core < 128 = omega (arith, c.requires.core, c.requires.at_hand.accepted.machine.most) in
    let gives : give_way p s x ≡ true = sym (c.if-give_way.ensures.way h acts st known) in
    ends_giving p s x c.args.core c.in_ok-ban.ban (ban_of x c.args.core) (sym (st.agrees.bans.bans c.args.core low) ∙ c.in_ok-ban.was) gives
