use Rattle.cal_paced.proofs.Common.{◌&&◌, not, ℕ, sym, ap, ◌∙◌, ◌==◌, has}
use Rattle.cal_paced.proofs.Beside.{none-beside, none-beyond, taken-away}
use Rattle.cal_paced.proofs.shares.take_beside.Goals as goal

pub returns-then-not-is_at_work-clause-taken : goal.returns-then-not-is_at_work-clause-taken
returns-then-not-is_at_work-clause-taken c core low =
    let shows = c.args.shows.now in
    none-beside (has c.args.clear.now core) shows.running shows.started core low (sym c.is_at_work.ensures ∙ c.if-not-is_at_work.true)

pub returns-then-shows-clause-taken : goal.returns-then-shows-clause-taken
returns-then-shows-clause-taken c core low =
    let shows = c.args.shows.now in
    none-beyond (has c.args.clear.now core) shows.running shows.started core low c.if-shows.true

pub returns-clause-taken : goal.returns-clause-taken
returns-clause-taken c core low =
    let shows = c.args.shows.now in
    c.remove.ensures core
    ∙ ap (λ (n : ℕ). not (core == n) && has c.args.clear.now core) c.sibling_of.ensures.sibling
    ∙ taken-away (has c.args.clear.now core) shows.running shows.started core (sym c.is_at_work.ensures ∙ c.if-not-is_at_work.false)
