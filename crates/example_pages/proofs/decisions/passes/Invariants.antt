use Rattle.cal_policy.specs.Auditor.{IsAuditorOf}
use Rattle.cal_policy.specs.Book.{board_in}
use Rattle.cal_policy.specs.State.{IsReady}
use Rattle.example_pages.proofs.decisions.passes.Given as goal

abbrev pub invariant-loop-shown : goal.invariant-loop-shown
invariant-loop-shown l = IsReady l.config (board_in l.book) × IsAuditorOf l.config l.auditor
