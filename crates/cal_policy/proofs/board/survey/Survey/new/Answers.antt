-- Each place of the counts is 0.
use Rattle.cal_policy.proofs.ListLemmas.OneMore.{get_or_same}
use Rattle.cal_policy.proofs.board.survey.Survey.new.Goals as goal

pub returns-clause-placed : goal.returns-clause-placed
returns-clause-placed c = λ k. get_or_same 128 k 0
