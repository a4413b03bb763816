use Rattle.cal_policy.proofs.Common.{ℕ, subst, ap, ◌∙◌, actions_of, looks_of, last_shown, judged, IsFitLook}
use Rattle.cal_policy.proofs.JudgementLemmas.OpenPass.{one_look_more, noted_adds}
use Rattle.cal_policy.proofs.judgement.open_pass.OpenPass.take.Goals as goal

pub returns-clause-taken : goal.returns-clause-taken
returns-clause-taken c = λ h looks agrees is fits.
    let table = c.args.config.now in
    let found = c.args.found in
    let old = c.args.self.now in
    let P : ℕ → Type 0 = λ k. IsFitLook (last_shown (looks_of h) k) (judged table.cores (actions_of h) k found.look) in
    one_look_more table h looks found old c.note.new.self is
    (noted_adds table h looks found c.judge-seen.result old c.note.new.self is (record { count = c.note.ensures.count; listed = c.note.ensures.listed; full = c.note.ensures.full; noted = c.note.ensures.noted })
    (c.judge-seen.ensures h agrees ∙ ap (λ k. judged table.cores (actions_of h) k found.look) is.count) (subst P is.count fits))
