use Rattle.cal_trace.proofs.Common.{Appends-trans, on_ok_weaker}
use Rattle.cal_trace.proofs.report.words.write_action.Goals as goal

pub returns-in_ok-write-in-Revoke : goal.returns-in_ok-write-in-Revoke
returns-in_ok-write-in-Revoke g c =
    rw c.in-Revoke.is (on_ok_weaker c.write_cause.result (λ cause. Appends-trans _ _ _ _ _ c.in_ok-write-in-Revoke.ensures.bytes cause) c.write_cause.ensures)
