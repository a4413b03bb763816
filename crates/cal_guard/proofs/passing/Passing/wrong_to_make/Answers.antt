use Rattle.cal_guard.proofs.Common.{sym, ap, ◌∙◌, Setting, setting_at, NotLeft, unless, wrong_to_make}
use Rattle.cal_guard.proofs.passing.Passing.wrong_to_make.Goals as goal

pub returns-in-Free : goal.returns-in-Free
returns-in-Free c = λ h acts stands sent.
    let s : Setting = setting_at c.args.config.now c.args.terms.now h in
    c.unless.ensures ∙ ap (λ b. unless b NotLeft) (c.is_left.ensures s acts stands) ∙ ap (wrong_to_make s acts) (sym c.in-Free.is)
