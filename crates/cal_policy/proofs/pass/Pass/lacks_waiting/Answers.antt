use Rattle.cal_policy.proofs.Common.{◌≡◌, ℕ, Bool, true, false, cond, refl, ap, sym, ◌∙◌, lacks, waits, setting_in, so_far}
use Rattle.cal_policy.proofs.pass.Pass.lacks_waiting.Goals as goal

nothing : (b : Bool) (n : ℕ) → n ≡ 0 → 0 ≡ cond b n 0
nothing true n e = sym e
nothing false n e = refl

pub returns-then-lacks-eq0-clause-lacks : goal.returns-then-lacks-eq0-clause-lacks
returns-then-lacks-eq0-clause-lacks c = λ h acts st.
    let s = setting_in c.args.self.now h in
    let x = so_far s acts in
    nothing (waits s x c.args.task) (lacks s.table x c.args.task) (sym (c.lacks-lacks.ensures.lacks x st.agrees) ∙ c.if-lacks-eq0.true)

pub returns-then-waits-clause-lacks : goal.returns-then-waits-clause-lacks
returns-then-waits-clause-lacks c = λ h acts st.
    let s = setting_in c.args.self.now h in
    let x = so_far s acts in
    c.lacks-lacks.ensures.lacks x st.agrees ∙ sym (ap (λ b. cond b (lacks s.table x c.args.task) 0) (sym (c.waits.ensures h acts st) ∙ c.if-waits.true))

pub returns-else-waits-clause-lacks : goal.returns-else-waits-clause-lacks
returns-else-waits-clause-lacks c = λ h acts st.
    let s = setting_in c.args.self.now h in
    let x = so_far s acts in
    sym (ap (λ b. cond b (lacks s.table x c.args.task) 0) (sym (c.waits.ensures h acts st) ∙ c.if-waits.false))
