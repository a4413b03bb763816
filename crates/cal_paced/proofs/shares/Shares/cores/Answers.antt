use Rattle.cal_paced.proofs.Common.{arith, has}
use Rattle.cal_paced.proofs.Cores.{only-clear}
use Rattle.cal_paced.proofs.shares.Shares.cores.Goals as goal

pub returns-then-saved-self-ge-WHOLE-2 : goal.returns-then-saved-self-ge-WHOLE-2
returns-then-saved-self-ge-WHOLE-2 c core =
    let shares = c.args.self.now in
    only-clear core c.args.saved shares.alone shares.beside (has shares.clear core) (c.requires.clear core) (omega arith) (omega arith)
