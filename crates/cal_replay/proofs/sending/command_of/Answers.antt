use Rattle.std.proofs.Common.{◌≡◌, ◌<◌, ℕ, List, Option, Some, None, sym, ap, subst, ◌∙◌, arith}
use Rattle.std.specs.Prelude.{IfSome}
use Rattle.cal_machine.specs.TableTasks.{threads_of_table}
use Rattle.cal_machine.specs.declared.command.Command.{Command}
use Rattle.cal_policy.specs.Board.{NamesTable, core_changed, granted_in}
use Rattle.cal_policy.specs.Book.{RunsOnTable}
use Rattle.cal_policy.specs.History.{addressed_to, last_thread}
use Rattle.cal_policy.specs.declared.history.action.Action.TheVariants.{Revoke}
use Rattle.cal_policy.specs.declared.history.action.Cause.{Cause}
use Rattle.cal_guard.proofs.Sent.{granted_last, sent_below, thread_below}
use Rattle.cal_replay.proofs.Commands.{run_on_table}
use Rattle.cal_replay.proofs.Or.{if_some}
use Rattle.cal_replay.proofs.sending.command_of.Goals as goal

pub returns : goal.returns
returns c = λ x agrees.
    let table = c.args.config.now in
    let threads = threads_of_table table in
    let holding = c.args.sent.now.holding in
    let most = c.limits.ensures.machine.most in
    let granted : (core : ℕ) (cause : Cause) → c.args.action ≡ Revoke core cause → c.thread_granted-granted.result ≡ last_thread x core = λ core cause is.
    let low : core < table.cores = subst (NamesTable table) is c.requires.names in
    c.thread_granted-granted.ensures core (c.core_changed_by.ensures.changed ∙ ap core_changed is)
    ∙ granted_last x core (granted_in holding core) (agrees.holding.granted core (omega (arith, low, most))) in
    record {
      exact = c.command_for.ensures x granted;
      thread = if_some (λ (s : ℕ × Command). s.0 < threads) c.command_for.result (λ s e.
          sent_below table.cores threads c.thread_granted-granted.result s c.args.action c.requires.names
          (λ core cause is. subst (λ o. IfSome o (λ thread. thread < threads)) (sym (c.thread_granted-granted.ensures core (c.core_changed_by.ensures.changed ∙ ap core_changed is)))
          (thread_below threads (granted_in holding core) (c.requires.ready.own.holding.granted core)))
          (λ y g k. ap (addressed_to k) (sym e) ∙ c.command_for.ensures y g k));
      core = if_some (λ (s : ℕ × Command). RunsOnTable table s.1) c.command_for.result (λ s e.
          run_on_table table x s c.args.action c.requires.names (ap (addressed_to s.0) (sym e) ∙ c.command_for.ensures x granted s.0));
    }
