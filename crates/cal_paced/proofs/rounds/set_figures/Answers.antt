use Rattle.cal_paced.proofs.Differing.{none-figured}
use Rattle.cal_paced.proofs.rounds.set_figures.Goals as goal

pub loop-p-init : goal.loop-p-init
loop-p-init c = none-figured c.args.first c.args.figure _
