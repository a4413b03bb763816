-- The Run is taken by its number as it is kept where it is by its number.
use Rattle.cal_policy.proofs.Common.{◌≡◌, ◌<◌, ◌&&◌, true, eqb, nat_lt, ap, sym, ◌∙◌, arith, eq-eqb, Record, Held, kept_holder, holder_of, setting_in, so_far, kept_now}
use Rattle.cal_policy.proofs.AssuredLemmas.AsKept.{untaken_held}
use Rattle.cal_policy.proofs.pass.Pass.is_untaken_on.Goals as goal

pub returns-then-placement-thread : goal.returns-then-placement-thread
returns-then-placement-thread c = λ h acts st.
    let s = setting_in c.args.self.now h in
    let x = so_far s acts in
    let low : c.args.core < 128 = omega (arith, c.requires.at_hand.accepted.machine.most) in
    let is : kept_holder (holder_of x c.args.core) ≡ Held c.in-Held.placement = sym (st.agrees.holding.holders c.args.core low) ∙ c.in-Held.is in
    let same : eqb c.in-Held.placement.thread c.args.thread ≡ true = eq-eqb _ _ c.if-placement-thread.true in
    sym (ap (λ b. b && c.is_run_untaken.result) same)
    ∙ untaken_held (kept_now s c.args.thread) c.args.thread (holder_of x c.args.core) c.in-Held.placement c.is_run_untaken.result is
    (λ n e. c.is_run_untaken.ensures n e ∙ ap (λ (r : Record). nat_lt r.taken n) (st.looks.kept c.args.thread c.requires.thread))
