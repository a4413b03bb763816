use Rattle.cal_world.proofs.Common.{[], ◌∷◌, ◌++◌, length, refl, slice_get_read, Yield}
use Rattle.cal_world.proofs.WorldLemmas.Noted.{standings_set, of_other_yield}
use Rattle.cal_world.proofs.world.present.leave_core.Goals as goal

pub returns-clause-of : goal.returns-clause-of
returns-clause-of c = λ before was.
    let ss = c.args.standings.now.items in
    standings_set ss c.args.k c.index.result.now c.after_yield.result before (before ++ Yield c.args.k ∷ [])
    (slice_get_read ss (length ss) c.args.k c.index.result.now refl c.requires c.index.ensures) was
    (λ of. c.after_yield.ensures before c.args.k of) (λ j t off of. of_other_yield t before c.args.k j off of)
