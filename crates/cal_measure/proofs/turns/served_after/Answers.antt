use Rattle.cal_measure.proofs.Common.{refl, last_of_push, served_told}
use Rattle.cal_measure.proofs.turns.served_after.Goals as goal

pub returns-in-Served : goal.returns-in-Served
returns-in-Served c = λ before e. rw (c.in-Served.is, last_of_push served_told) refl

pub returns-in-Published : goal.returns-in-Published
returns-in-Published c = λ before e. rw (c.in-Published.is, last_of_push served_told) refl

pub returns-in-Arrived : goal.returns-in-Arrived
returns-in-Arrived c = λ before e. rw (c.in-Arrived.is, last_of_push served_told) e

pub returns-in-Took : goal.returns-in-Took
returns-in-Took c = λ before e. rw (c.in-Took.is, last_of_push served_told) e

pub returns-in-Stole : goal.returns-in-Stole
returns-in-Stole c = λ before e. rw (c.in-Stole.is, last_of_push served_told) e

pub returns-in-Yielded : goal.returns-in-Yielded
returns-in-Yielded c = λ before e. rw (c.in-Yielded.is, last_of_push served_told) e
