use Rattle.cal_world.proofs.WorldLemmas.Noted.{of_watch}
use Rattle.cal_world.proofs.world.standing.Standing.after_watch.Goals as goal

pub returns : goal.returns
returns c = of_watch c.args.self c.args.number
