use Rattle.cal_policy.specs.Auditor.{IsAuditorOf}
use Rattle.cal_policy.specs.Book.{board_in}
use Rattle.cal_policy.specs.State.{IsReady}
use Rattle.cal_guard.specs.Guarded as guards
use Rattle.test_policy.proofs.policy.beside.are_alike.Given as goal

abbrev pub invariant-loop-pass : goal.invariant-loop-pass
invariant-loop-pass l = record {
  stepped : IsReady l.config (board_in l.all.stepped);
  walked : IsReady l.config (board_in l.all.walked.book);
  guard : IsReady l.config (guards.board_in l.all.judges.guard);
  auditor : IsAuditorOf l.config l.all.judges.auditor;
}
