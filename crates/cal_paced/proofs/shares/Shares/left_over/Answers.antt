use Rattle.std.proofs.Common.{◌-◌, ℕ, sym, ◌∙◌, arith}
use Rattle.cal_paced.proofs.Leaving.{left-done, left-high, left-low, left-off}
use Rattle.cal_paced.proofs.shares.Shares.left_over.Goals as goal

pub returns-then-is_some-clause-left : goal.returns-then-is_some-clause-left
returns-then-is_some-clause-left c shares works now request answers before after same told agree =
    left-done works now request answers before after c.args.entries.now c.args.saved shares told agree c.requires.shaped (sym c.is_some.ensures ∙ c.if-is_some.true)

pub returns-then-running-eq0-clause-left : goal.returns-then-running-eq0-clause-left
returns-then-running-eq0-clause-left c shares works now request answers before after same told agree =
    left-off works now request answers before after c.args.entries.now c.args.saved shares told agree c.requires.shaped (sym c.is_some.ensures ∙ c.if-is_some.false) c.if-running-eq0.true

pub returns-then-total-lt-WHOLE-clause-left : goal.returns-then-total-lt-WHOLE-clause-left
returns-then-total-lt-WHOLE-clause-left c shares works now request answers before after same told agree =
    let within = c.requires.shaped.0 in
    let running : ℕ = c.args.entries.now.published.shown.running in
    left-low works now request answers before after c.args.entries.now c.args.saved _ shares told agree c.requires.shaped (sym c.is_some.ensures ∙ c.if-is_some.false) c.if-running-eq0.false
    (c.on.ensures.share ∙ same (running - 1) (omega (arith, within))) c.if-total-lt-WHOLE.true

pub returns-else-total-lt-WHOLE-clause-left : goal.returns-else-total-lt-WHOLE-clause-left
returns-else-total-lt-WHOLE-clause-left c shares works now request answers before after same told agree =
    let within = c.requires.shaped.0 in
    let running : ℕ = c.args.entries.now.published.shown.running in
    left-high works now request answers before after c.args.entries.now c.args.saved _ shares told agree c.requires.shaped (sym c.is_some.ensures ∙ c.if-is_some.false) c.if-running-eq0.false
    (c.on.ensures.share ∙ same (running - 1) (omega (arith, within))) c.if-total-lt-WHOLE.false
