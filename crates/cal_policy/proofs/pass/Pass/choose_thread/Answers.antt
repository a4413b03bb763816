use Rattle.cal_policy.proofs.Common.{◌≡◌, ◌+◌, nat_lt, ap, ◌∙◌, arith, Task, so_far, thread_of, limit_of, best_below, thread_rank, setting_in}
use Rattle.cal_policy.proofs.ListLemmas.OneNumberMore.{best_more}
use Rattle.cal_policy.proofs.pass.Pass.choose_thread.Goals as goal

pub loop-j-preserved : goal.loop-j-preserved
loop-j-preserved c = record {
  choice = λ h acts s.
      let at = setting_in c.args.self.now h in
      c.greater-best.ensures.better ∙ best_more (λ rank best. nat_lt best rank)
      (λ j. thread_rank at (so_far at acts) (thread_of c.args.self.now.config.now c.args.task j)) c.loop-j.j _ _
      (c.loop-j.invariant.choice h acts s)
      (c.thread_rank-rank.ensures h acts s ∙ ap (λ first. thread_rank at (so_far at acts) (first + c.loop-j.j)) c.threads_of-first.ensures.first);
  below = c.greater-best.ensures.below;
}

pub returns-clause-choice : goal.returns-clause-choice
returns-clause-choice c = λ h acts s.
    let at = setting_in c.args.self.now h in
    let limit = ap (λ (t : Task). t.limit) c.task-j-end.ensures.task in
    let all : c.loop-j.j ≡ limit_of c.args.self.now.config.now c.args.task = omega (arith, limit) in
    c.loop-j.invariant.choice h acts s
    ∙ ap (best_below (λ rank best. nat_lt best rank) (λ j. thread_rank at (so_far at acts) (thread_of c.args.self.now.config.now c.args.task j))) all
