use Rattle.cal_policy.proofs.Common.{◌≡◌, ◌+◌, ap, ◌∙◌, arith, is_some, thread_of, limit_of, setting_in, count_below, thread_rank, so_far}
use Rattle.cal_policy.proofs.AssuredLemmas.Counting.{counted_more}
use Rattle.cal_policy.proofs.pass.Pass.spare.Goals as goal

pub loop-j-preserved : goal.loop-j-preserved
loop-j-preserved c = record {
  count = λ h acts st.
      let s = setting_in c.args.self.now h in
      c.count_if-spare.ensures.count ∙ counted_more (λ j. is_some (thread_rank s (so_far s acts) (thread_of s.table c.args.task j))) c.loop-j.j _ _ (c.loop-j.invariant.count h acts st)
      (c.is_some.ensures ∙ ap is_some (c.thread_rank-rank.ensures h acts st ∙ ap (λ first. thread_rank s (so_far s acts) (first + c.loop-j.j)) c.threads_of-first.ensures.first));
  few = omega (arith, c.loop-j.invariant.few, c.count_if-spare.ensures.few);
}

pub returns : goal.returns
returns c = λ h acts st.
    let s = setting_in c.args.self.now h in
    let all : c.loop-j.j ≡ limit_of s.table c.args.task = omega (arith, c.threads_of-first.ensures.count) in
    c.loop-j.invariant.count h acts st ∙ ap (count_below (λ j. is_some (thread_rank s (so_far s acts) (thread_of s.table c.args.task j)))) all
