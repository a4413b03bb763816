use Rattle.cal_kthread.proofs.Common.{◌∙◌, ap, Some, taken}
use Rattle.cal_kthread.proofs.TurnLemmas.Stepping.{taking}
use Rattle.cal_kthread.proofs.turn.thread.Thread.take.Goals as goal

pub returns-clause-taken : goal.returns-clause-taken
returns-clause-taken c = (
  Some c.in_ok-number.command,
  taking c.args.now _ c.take.new.self c.in_ok-number.number c.in_ok-number.command c.core_after-core.result c.current_after-self-inside.result c.in_ok-number.ensures.ring c.in_ok-number.ensures.next
      c.in_ok-number.ensures.number c.core_after-core.ensures c.current_after-self-inside.ensures ∙ ap (taken c.args.now (Some c.in_ok-number.command)) c.self.view_is,
)
