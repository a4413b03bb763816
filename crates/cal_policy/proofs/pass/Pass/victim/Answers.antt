use Rattle.cal_policy.proofs.Common.{◌≡◌, ◌<◌, length, nat_lt, ap, ◌∙◌, arith, best_below, so_far, victim_rank, setting_in}
use Rattle.cal_policy.proofs.ListLemmas.OneNumberMore.{best_more}
use Rattle.cal_policy.proofs.pass.Pass.victim.Goals as goal

pub loop-t-preserved : goal.loop-t-preserved
loop-t-preserved c = record {
  victim = λ h acts st f.
      let s = setting_in c.args.self.now h in
      let few : c.loop-t.t < 16 = omega arith in
      c.greater-best.ensures.better
      ∙ best_more (λ rank best. nat_lt best rank) (victim_rank s (so_far s acts)) c.loop-t.t _ _
      (c.loop-t.invariant.victim h acts st f) (c.victim_rank-rank.ensures h acts st (f c.loop-t.t few));
  below = c.greater-best.ensures.below;
}

pub returns-clause-victim : goal.returns-clause-victim
returns-clause-victim c = λ h acts st f.
    let s = setting_in c.args.self.now h in
    let all : c.loop-t.t ≡ length c.args.self.now.config.now.tasks = omega (arith, c.tasks-t-end.ensures.count) in
    c.loop-t.invariant.victim h acts st f ∙ ap (best_below (λ rank best. nat_lt best rank) (victim_rank s (so_far s acts))) all
