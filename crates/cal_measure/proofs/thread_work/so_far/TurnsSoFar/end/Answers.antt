use Rattle.cal_measure.proofs.Common.{◌++◌, ◌∙◌, List, None, ap, subst, arith, timed_by, IsWorkOfEnded, ended_of, TimedTurn}
use Rattle.cal_measure.proofs.ThreadTurns.{ended_few, timed_whole}
use Rattle.cal_measure.proofs.thread_work.so_far.TurnsSoFar.end.Goals as goal

pub returns : goal.returns
returns c = λ turns many so_far.
    let fewer = ended_few turns in
    subst (λ (l : List TimedTurn). IsWorkOfEnded l c.take.new.self)
    (ap (λ o. ended_of turns ++ timed_by c.args.last o None) so_far.latest ∙ timed_whole c.args.last turns)
    (c.in_ok-take.ensures (ended_of turns) (omega (arith, fewer, many)) so_far.ended)
