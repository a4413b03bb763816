use Rattle.cal_world.proofs.WorldLemmas.Noted.{of_take}
use Rattle.cal_world.proofs.world.standing.Standing.after_take.Goals as goal

pub returns : goal.returns
returns c = λ before k next was. of_take c.args.self c.args.command c.core_after.result before k next c.core_after.ensures was
