use Rattle.cal_guard.proofs.Common.{arith, refl, actions_of, looks_of, Setting, setting, Stands_begin, next_setting}
use Rattle.cal_guard.proofs.Low.{low_after}
use Rattle.cal_guard.proofs.Sent.{none_sent}
use Rattle.cal_guard.proofs.Standing.{stands_next}
use Rattle.cal_guard.proofs.passing.Passing.begin.Goals as goal

pub returns-clause-inside : goal.returns-clause-inside
returns-clause-inside c = λ table h input looks permitted is.
    let s : Setting = setting table h input in record {
      stands = Stands_begin s c.begin_board.new.board (c.begin_board.ensures.agrees (actions_of h) is.actions) c.begin_board.ensures.fresh
          (c.begin_board.ensures.keeping table h input.seen looks is.looks) (c.begin_board.ensures.before (looks_of h) is.looks);
      sent = none_sent c.empty-self.result s c.empty-self.ensures;
      made = refl;
      few = omega arith;
      low = low_after table h permitted;
    }

pub returns-clause-after : goal.returns-clause-after
returns-clause-after c = λ s acts input shown is. record {
  stands = stands_next s acts input c.args.self.now.board c.begin_board.new.board is.stands c.begin_board.ensures.agrees c.begin_board.ensures.fresh
      (λ past agrees. c.begin_board.ensures.shown past input.seen shown agrees) c.begin_board.ensures.before;
  sent = none_sent c.empty-self.result (next_setting s acts input) c.empty-self.ensures;
}
