use Rattle.cal_guard.proofs.Common.{ap, Board, Passing}
use Rattle.cal_guard.proofs.passing.Passing.duplicate.Goals as goal

pub returns : goal.returns
returns c =
    let like : Board → Passing = λ board. record { board = board; sent = c.args.self.now.sent; made = c.args.self.now.made } in
    ap like c.duplicate.ensures
