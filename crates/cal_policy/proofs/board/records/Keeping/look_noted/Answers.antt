use Rattle.cal_policy.proofs.Common.{◌≡◌, ℕ, ◌<◌, ◌≤◌, refl, rules, false, has_thread, kept_in, shown_in}
use Rattle.cal_policy.proofs.JudgementLemmas.OpenPass.{gives_kept, gives_shown, noted_agrees, noted_kept, all_taken}
use Rattle.cal_policy.proofs.board.records.Keeping.look_noted.Goals as goal

pub returns-clause-agrees : goal.returns-clause-agrees
returns-clause-agrees c = λ table h looks s is.
    let i = c.loop-k.invariant in
    let pass = c.args.pass.now in
    let old = c.args.self.now in
    let new = c.loop-k.self in
    let none : (j : ℕ) → c.loop-k.first ≤ j → j < 128 → has_thread pass.listed j ≡ false = search rules in
    noted_agrees table h looks pass old new s is
    (all_taken (kept_in new) (kept_in old) (gives_kept pass) c.loop-k.first i.kept_done i.kept_left (λ j high lt. rw (none j high lt) refl))
    (all_taken (shown_in new) (shown_in old) (gives_shown pass) c.loop-k.first i.shown_done i.shown_left (λ j high lt. rw (none j high lt) refl))

pub returns-clause-noted : goal.returns-clause-noted
returns-clause-noted c = λ looks seen s shows.
    let i = c.loop-k.invariant in
    let pass = c.args.pass.now in
    let old = c.args.self.now in
    let new = c.loop-k.self in
    let none : (j : ℕ) → c.loop-k.first ≤ j → j < 128 → has_thread pass.listed j ≡ false = search rules in
    noted_kept looks seen pass old new s shows
    (all_taken (kept_in new) (kept_in old) (gives_kept pass) c.loop-k.first i.kept_done i.kept_left (λ j high lt. rw (none j high lt) refl))
    (all_taken (shown_in new) (shown_in old) (gives_shown pass) c.loop-k.first i.shown_done i.shown_left (λ j high lt. rw (none j high lt) refl))
