use Rattle.cal_world.proofs.Common.{[], ◌∷◌, ◌++◌, length, refl, slice_get_read, Read}
use Rattle.cal_world.proofs.WorldLemmas.Noted.{standings_set, of_other_read}
use Rattle.cal_world.proofs.world.present.raise_read_floor.Goals as goal

pub returns-clause-of : goal.returns-clause-of
returns-clause-of c = λ before was.
    let ss = c.args.standings.now.items in
    standings_set ss c.args.k c.index.result.now c.after_read.result before (before ++ Read c.args.k c.args.number ∷ [])
    (slice_get_read ss (length ss) c.args.k c.index.result.now refl c.requires c.index.ensures) was
    (λ of. c.after_read.ensures before c.args.k of) (λ j t off of. of_other_read t before c.args.k j c.args.number off of)
