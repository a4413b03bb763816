use Rattle.std.proofs.Common.{◌<◌, length, sym, ◌∙◌, arith}
use Rattle.cal_policy.proofs.PassLemmas.Bandwidth.{lowest_none, lowest_found}
use Rattle.cal_guard.specs.Refusals as refusals
use Rattle.cal_guard.proofs.passing.lowest_left_over.Goals as goal

pub loop-task-preserved : goal.loop-task-preserved
loop-task-preserved c = λ x agrees.
    lowest_none (refusals.is_left_over c.args.config.now x c.args.revoked) c.loop-task.task (c.loop-task.invariant x agrees) (sym (c.is_left_over.ensures x agrees) ∙ c.if-is_left_over.false)

pub returns-then-is_left_over-clause-lowest : goal.returns-then-is_left_over-clause-lowest
returns-then-is_left_over-clause-lowest c = λ x agrees.
    let lt : c.loop-task.task < length c.args.config.now.tasks = omega arith in
    sym (lowest_found (refusals.is_left_over c.args.config.now x c.args.revoked) c.loop-task.task (length c.args.config.now.tasks) lt (c.loop-task.invariant x agrees)
    (sym (c.is_left_over.ensures x agrees) ∙ c.if-is_left_over.true))
