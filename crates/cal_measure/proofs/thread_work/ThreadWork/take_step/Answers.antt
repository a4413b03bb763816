use Rattle.cal_measure.proofs.thread_work.ThreadWork.take_step.Goals as goal

pub returns-in-None : goal.returns-in-None
returns-in-None c = λ journal so_far short. rw c.in-None.is so_far

pub returns-in-Some : goal.returns-in-Some
returns-in-Some c = λ journal so_far. rw c.in-Some.is (c.take_entry.ensures journal so_far)
