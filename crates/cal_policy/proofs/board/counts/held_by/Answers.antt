use Rattle.cal_policy.proofs.Common.{arith, is_held_for, holder_in}
use Rattle.cal_policy.proofs.BoardLemmas.StateKept.{some_counted}
use Rattle.cal_policy.proofs.BoardLemmas.Surveyed.{Surveys_agree}
use Rattle.cal_policy.proofs.board.counts.held_by.Goals as goal

pub returns-clause-held : goal.returns-clause-held
returns-clause-held c = λ x a.
    let table = c.args.config.now in
    let board = c.args.board.now in
    (Surveys_agree table board.holding x board.survey (omega (arith, c.limits.ensures.machine.most)) a.holding c.requires.ready.counts).held c.args.task c.requires.task

pub returns-clause-some : goal.returns-clause-some
returns-clause-some c = λ core lt yes.
    let table = c.args.config.now in
    let board = c.args.board.now in
    omega (arith, c.requires.ready.counts.held c.args.task c.requires.task, some_counted (λ i. is_held_for table c.args.task (holder_in board.holding i)) table.cores core lt yes)
