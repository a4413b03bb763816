use Rattle.cal_world.proofs.WorldLemmas.Noted.{of_read}
use Rattle.cal_world.proofs.world.standing.Standing.after_read.Goals as goal

pub returns : goal.returns
returns c = of_read c.args.self c.args.number
