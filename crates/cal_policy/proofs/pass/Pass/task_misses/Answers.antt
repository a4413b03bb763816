use Rattle.cal_policy.proofs.Common.{ap, ◌+◌, ◌∙◌, arith, thread_of, new_misses, setting_in}
use Rattle.cal_policy.proofs.PassLemmas.Bandwidth.{sum_more}
use Rattle.cal_policy.proofs.pass.Pass.task_misses.Goals as goal

pub loop-j-preserved : goal.loop-j-preserved
loop-j-preserved c = record {
  sum = λ h acts st.
      let s = setting_in c.args.self.now h in
      sum_more (λ j. new_misses s (thread_of s.table c.args.task j)) c.loop-j.j _ _ (c.loop-j.invariant.sum h acts st)
      (c.from-misses.ensures ∙ c.new_misses.ensures h acts st
      ∙ ap (λ first. new_misses s (first + c.loop-j.j)) c.threads_of-first.ensures.first);
  small = omega arith;
}
