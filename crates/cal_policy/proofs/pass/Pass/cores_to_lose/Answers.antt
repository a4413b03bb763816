use Rattle.cal_policy.proofs.Common.{◌≡◌, ◌<◌, Some, None, cond, get_or, ap, sym, ◌∙◌, arith, highest_below, so_far, can_lose, setting_in}
use Rattle.cal_policy.proofs.PassLemmas.Bandwidth.{highest_more, held_more}
use Rattle.cal_policy.proofs.pass.Pass.cores_to_lose.Goals as goal

pub loop-core-preserved : goal.loop-core-preserved
loop-core-preserved c =
    let core = c.loop-core.core in
    let old = c.loop-core.highest in record {
      lose = λ h acts st t lt.
          let s = setting_in c.args.self.now h in
          let p = can_lose s (so_far s acts) t in
          c.note.ensures t lt
          ∙ ap (λ b. cond b (Some core) (get_or old t None)) (sym (c.task_that_can_lose-task.ensures.lose h acts st t))
          ∙ ap (λ o. cond (p core) (Some core) o) (c.loop-core.invariant.lose h acts st t lt)
          ∙ sym (highest_more p core);
      held = λ t lt.
          let below : core < c.args.self.now.config.now.cores = omega arith in
          rw (c.note.ensures t lt) (held_more c.args.self.now.config.now c.args.board.now t core c.task_that_can_lose-task.result (get_or old t None) below
          c.task_that_can_lose-task.ensures.held (c.loop-core.invariant.held t lt));
    }

pub returns-clause-lose : goal.returns-clause-lose
returns-clause-lose c = λ h acts st t lt.
    let s = setting_in c.args.self.now h in
    let all : c.loop-core.core ≡ c.args.self.now.config.now.cores = omega arith in
    c.loop-core.invariant.lose h acts st t lt ∙ ap (highest_below (can_lose s (so_far s acts) t)) all
