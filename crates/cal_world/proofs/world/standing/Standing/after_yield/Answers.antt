use Rattle.cal_world.proofs.WorldLemmas.Noted.{of_yield}
use Rattle.cal_world.proofs.world.standing.Standing.after_yield.Goals as goal

pub returns : goal.returns
returns c = of_yield c.args.self
