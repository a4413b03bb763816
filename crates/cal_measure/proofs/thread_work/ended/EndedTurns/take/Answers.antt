use Rattle.cal_measure.proofs.Common.{◌++◌, ◌∙◌, List, ap, subst, sym, OnOk, append-nil, timed_by, IsWorkOfEnded, TimedTurn}
use Rattle.cal_measure.proofs.thread_work.ended.EndedTurns.take.Goals as goal

pub returns-in-None : goal.returns-in-None
returns-in-None c = λ turns many so_far. rw (c.in-None.is, append-nil turns) so_far

pub returns-in-Some : goal.returns-in-Some
returns-in-Some c = λ turns many so_far.
    subst (λ (l : List TimedTurn). OnOk c.take_ended.result (IsWorkOfEnded (turns ++ l) c.take_ended.new.self))
    (c.with_end.ensures ∙ ap (λ o. timed_by c.args.last o c.args.next) (sym c.in-Some.is))
    (c.take_ended.ensures turns many so_far)
