use Rattle.cal_policy.proofs.Common.{◌≡◌, sym, ◌∙◌, None, actions_of, looks_of, last_shown, misfit_of}
use Rattle.cal_policy.proofs.JudgementLemmas.OneByOne.{misfits_do_not_fit}
use Rattle.cal_policy.proofs.judgement.open_pass.OpenPass.look.Goals as goal

pub returns-clause-taken : goal.returns-clause-taken
returns-clause-taken c = λ h looks agrees is.
    let table = c.args.config.now in
    let found = c.args.found in
    let old = c.args.self.now in
    let none : misfit_of (last_shown (looks_of h) old.count) found.look ≡ None = sym (c.misfit_of.ensures h agrees) ∙ c.in_default.is in
    c.take.ensures.taken h looks agrees is ((misfits_do_not_fit (last_shown (looks_of h) old.count) table.cores (actions_of h) old.count found.look).0 none)
