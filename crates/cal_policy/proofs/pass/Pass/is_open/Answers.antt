use Rattle.std.proofs.Common.{◌<◌, ◌∙◌, arith}
use Rattle.cal_policy.proofs.AssuredLemmas.AsKept.{open_as_kept}
use Rattle.cal_policy.proofs.pass.Pass.is_open.Goals as goal

pub returns : goal.returns
returns c = λ x a.
    let low : c.args.core < 128 = omega arith in
    c.has.ensures ∙ open_as_kept _ c.args.board.now x c.requires.at_hand.ready a c.args.core low
