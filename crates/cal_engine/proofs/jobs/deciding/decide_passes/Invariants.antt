use Rattle.cal_engine.proofs.Common.{◌≡◌, ℕ, List, [], threads_in, HasGiven}
use Rattle.cal_policy.specs.Book.{board_in}
use Rattle.cal_policy.specs.State.{IsReady}
use Rattle.cal_trace.specs.Signals.Reading.{IsOpen, rows_left}
use Rattle.cal_engine.proofs.InTurn.{IsDeciding}
use Rattle.cal_engine.proofs.jobs.deciding.decide_passes.Given as goal

abbrev pub invariant-loop-decider : goal.invariant-loop-decider
invariant-loop-decider g l = record {
  ready : IsOpen l.signals;
  of : IsReady l.config (board_in l.decider.book);
  by : l.decider.book.policy ≡ l.fn.policy;
  deciding : (trace : List ℕ) → HasGiven (threads_in l.config.tasks) trace [] l.initial.signals → IsDeciding l.fn.policy (g.K.Keeper.keeps l.keeper) l.config trace l.signals l.decider;
}

abbrev pub decreases-loop-decider : goal.decreases-loop-decider
decreases-loop-decider g l = rows_left l.signals
