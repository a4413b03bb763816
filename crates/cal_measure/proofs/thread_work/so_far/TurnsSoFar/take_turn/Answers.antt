use Rattle.cal_measure.proofs.Common.{◌++◌, ◌∙◌, ℕ, List, Some, length, ap, subst, sym, arith, timed_by, IsWorkOfEnded, ended_of, suspension_by, suspensions_in, TimedTurn}
use Rattle.cal_measure.proofs.ThreadTurns.{ended_few, ended_push, latest_push, suspensions_few, suspensions_push}
use Rattle.cal_measure.proofs.thread_work.so_far.TurnsSoFar.take_turn.Goals as goal

pub returns : goal.returns
returns c = λ turns many so_far.
    let turn = c.args.turn in
    let fewer = ended_few turns in
    let fewest = suspensions_few turns in
    record {
      latest = sym (latest_push turns turn);
      ended = subst (λ (l : List TimedTurn). IsWorkOfEnded l c.take.new.self)
          (ap (λ o. ended_of turns ++ timed_by 0 o (Some turn)) so_far.latest ∙ ended_push turns turn)
          (c.in_ok-take.ensures (ended_of turns) (omega (arith, fewer, many)) so_far.ended);
      suspensions = c.counted-self.ensures (suspensions_in turns) (omega (arith, fewest, many)) so_far.suspensions
          ∙ ap (λ (l : List ℕ). length l) (ap (λ l. suspensions_in turns ++ l) (c.suspension_by.ensures ∙ ap (λ o. suspension_by o (Some turn)) so_far.latest) ∙ suspensions_push turns turn);
    }
