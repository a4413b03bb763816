use Rattle.cal_measure.proofs.NothingTo.{ban_is_nothing, free_is_nothing, grant_is_nothing, stays_right, unban_is_nothing}
use Rattle.cal_measure.proofs.walk.each_task.count_action.Goals as goal

pub returns-in-Free-clause-numbers : goal.returns-in-Free-clause-numbers
returns-in-Free-clause-numbers c = λ x low agrees each t row at.
    let table = c.args.config.now in
    rw c.in-Free.is (stays_right table t x _ row (free_is_nothing table t x _) (each t row at))

pub returns-in-Unban-clause-numbers : goal.returns-in-Unban-clause-numbers
returns-in-Unban-clause-numbers c = λ x low agrees each t row at.
    let table = c.args.config.now in
    rw c.in-Unban.is (stays_right table t x _ row (unban_is_nothing table t x _) (each t row at))

pub count_for-requires-clause-alone : goal.count_for-requires-clause-alone
count_for-requires-clause-alone c = λ x t off. grant_is_nothing c.args.config.now t x _ _ _ off

pub count_for-requires-in-Ban-clause-alone : goal.count_for-requires-in-Ban-clause-alone
count_for-requires-in-Ban-clause-alone c = λ x t off. ban_is_nothing c.args.config.now t x _ _ _ off

pub returns-in-Grant-clause-numbers : goal.returns-in-Grant-clause-numbers
returns-in-Grant-clause-numbers c = λ x low agrees each. rw c.in-Grant.is (c.count_for.ensures.numbers x low agrees each)

pub returns-in-Ban-clause-numbers : goal.returns-in-Ban-clause-numbers
returns-in-Ban-clause-numbers c = λ x low agrees each. rw c.in-Ban.is (c.count_for-in-Ban.ensures.numbers x low agrees each)
