use Rattle.std.proofs.lemmas.List.{append-nil}
use Rattle.cal_measure.proofs.thread_work.so_far.TurnsSoFar.take.Goals as goal

pub returns-in-None : goal.returns-in-None
returns-in-None c = λ turns many so_far. rw (c.in-None.is, append-nil turns) so_far

pub returns-in-Some : goal.returns-in-Some
returns-in-Some c = λ turns many so_far. rw c.in-Some.is (c.take_turn.ensures turns many so_far)
