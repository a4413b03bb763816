use Rattle.cal_policy.proofs.PassLemmas.Apart.{orderly_apart}
use Rattle.cal_policy.proofs.pass.plain.plain_pass_by.Goals as goal

pub returns : goal.returns
returns c =
    let h = c.args.history.now in
    (c.decide.ensures.acts h (orderly_apart c.args.config.now h c.requires.orderly) c.board_of-board.ensures.agrees c.board_of-board.ensures.keeping c.requires.input.looks.fit).0
