-- Each thread that waits counts, and those between have no delay.
use Rattle.cal_policy.proofs.Common.{◌≡◌, ◌+◌, ◌-◌, ◌≤◌, ℕ, ap, sym, ◌∙◌, arith, first_thread, setting_in, thread_of, greatest_below, thread_delay}
use Rattle.cal_policy.proofs.ListLemmas.OneNumberMore.{greatest_more}
use Rattle.cal_policy.proofs.PassLemmas.NothingDue.{delays_past}
use Rattle.cal_policy.proofs.pass.Pass.task_delay.Goals as goal

pub loop-next-preserved : goal.loop-next-preserved
loop-next-preserved c =
    let i = c.loop-next.invariant in
    let t = c.args.task in
    let first = c.threads_of-first.result.0 in
    let k = c.in-Some.k in
    let from = c.in-Some.ensures.next.0 in
    let to = c.in-Some.ensures.next.1 in
    let is = c.threads_of-first.ensures.first in
    let most : first + (k - first) ≤ 128 = omega (arith, c.requires.at_hand.accepted.threads, c.threads_of-first.ensures.within, to) in record {
      greatest = λ h acts st.
          let s = setting_in c.args.self.now h in
          let F : ℕ → ℕ = λ j. thread_delay s (thread_of c.args.self.now.config.now t j) in
          let past = delays_past c.args.board.now s acts st c.requires.at_hand.ready.keeping t first (c.loop-next.next - first) (k - first)
          is (omega (arith, from)) most (λ j a b. c.in-Some.ensures.between j (omega (arith, a, i.from)) (omega (arith, b, from, i.from))) in
          let here : k ≡ first_thread c.args.self.now.config.now.tasks t + (k - first) = omega (arith, is, from, i.from) in
          let one : k - first + 1 ≡ k + 1 - first = omega (arith, from, i.from) in
          c.max-greatest.ensures
          ∙ greatest_more F (k - first) _ _ (i.greatest h acts st ∙ sym past) (c.thread_delay-delay.ensures h acts st ∙ ap (thread_delay s) here)
          ∙ ap (greatest_below F) one;
      from = omega (arith, from, i.from);
      to = omega (arith, to);
    }

pub returns : goal.returns
returns c = λ h acts st.
    let i = c.loop-next.invariant in
    let t = c.args.task in
    let s = setting_in c.args.self.now h in
    let F : ℕ → ℕ = λ j. thread_delay s (thread_of c.args.self.now.config.now t j) in
    let first = c.threads_of-first.result.0 in
    let count = c.threads_of-first.result.1 in
    let past = delays_past c.args.board.now s acts st c.requires.at_hand.ready.keeping t first (c.loop-next.next - first) count
    c.threads_of-first.ensures.first (omega (arith, i.from, i.to)) (omega (arith, c.requires.at_hand.accepted.threads, c.threads_of-first.ensures.within))
    (λ j a b. c.in_default.ensures.none j (omega (arith, a, i.from)) b) in
    i.greatest h acts st ∙ sym past ∙ ap (greatest_below F) c.threads_of-first.ensures.count
