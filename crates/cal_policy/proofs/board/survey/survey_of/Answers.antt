use Rattle.std.proofs.Common.{arith}
use Rattle.cal_policy.proofs.BoardLemmas.Surveyed.{Surveys_agree}
use Rattle.cal_policy.proofs.board.survey.survey_of.Goals as goal

pub returns : goal.returns
returns c = λ x a. Surveys_agree c.args.config.now c.args.board.now.holding x c.args.board.now.survey (omega (arith, c.limits.ensures.machine.most)) a.holding c.requires.ready.counts
