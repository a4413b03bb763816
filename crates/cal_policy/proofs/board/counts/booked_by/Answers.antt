use Rattle.std.proofs.Common.{arith}
use Rattle.cal_policy.proofs.BoardLemmas.Surveyed.{Surveys_agree}
use Rattle.cal_policy.proofs.board.counts.booked_by.Goals as goal

pub returns : goal.returns
returns c = λ x a.
    let table = c.args.config.now in
    let board = c.args.board.now in
    (Surveys_agree table board.holding x board.survey (omega (arith, c.limits.ensures.machine.most)) a.holding c.requires.ready.counts).booked c.args.task c.requires.task
