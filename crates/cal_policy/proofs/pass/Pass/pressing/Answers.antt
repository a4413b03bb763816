-- Each thread that waits is asked, and those between do not press.
use Rattle.cal_policy.proofs.Common.{◌≡◌, ◌+◌, ◌-◌, ◌≤◌, ℕ, Bool, ap, ◌∙◌, arith, first_thread, thread_of, presses, setting_in, count_below, so_far}
use Rattle.cal_policy.proofs.AssuredLemmas.Counting.{counted_more}
use Rattle.cal_policy.proofs.AssuredLemmas.Waiting.{press_past}
use Rattle.cal_policy.proofs.pass.Pass.pressing.Goals as goal

pub loop-next-preserved : goal.loop-next-preserved
loop-next-preserved c =
    let i = c.loop-next.invariant in
    let t = c.args.task in
    let first = c.threads_of-first.result.0 in
    let k = c.in-Some.k in
    let from = c.in-Some.ensures.next.0 in
    let to = c.in-Some.ensures.next.1 in
    let is = c.threads_of-first.ensures.first in
    let most : first + (k - first) ≤ 128 = omega (arith, c.requires.at_hand.accepted.threads, c.threads_of-first.ensures.within, to) in record {
      count = λ h acts st.
          let s = setting_in c.args.self.now h in
          let x = so_far s acts in
          let F : ℕ → Bool = λ j. presses s x (thread_of s.table t j) in
          let past = press_past c.args.board.now s acts st c.requires.at_hand.ready.keeping t first (c.loop-next.next - first) (k - first)
          is (omega (arith, from)) most (λ j a b. c.in-Some.ensures.between j (omega (arith, a, i.from)) (omega (arith, b, from, i.from))) in
          let here : k ≡ first_thread s.table.tasks t + (k - first) = omega (arith, is, from, i.from) in
          let one : k - first + 1 ≡ k + 1 - first = omega (arith, from, i.from) in
          c.count_if-pressing.ensures.count
          ∙ counted_more F (k - first) _ _ (i.count h acts st ∙ past) (c.presses.ensures h acts st ∙ ap (presses s x) here)
          ∙ ap (count_below F) one;
      few = omega (arith, i.few, c.count_if-pressing.ensures.few, from, i.from);
      from = omega (arith, from, i.from);
      to = omega (arith, to);
    }

pub returns : goal.returns
returns c = λ h acts st.
    let i = c.loop-next.invariant in
    let t = c.args.task in
    let s = setting_in c.args.self.now h in
    let F : ℕ → Bool = λ j. presses s (so_far s acts) (thread_of s.table t j) in
    let first = c.threads_of-first.result.0 in
    let count = c.threads_of-first.result.1 in
    let past = press_past c.args.board.now s acts st c.requires.at_hand.ready.keeping t first (c.loop-next.next - first) count
    c.threads_of-first.ensures.first (omega (arith, i.from, i.to)) (omega (arith, c.requires.at_hand.accepted.threads, c.threads_of-first.ensures.within))
    (λ j a b. c.in_default.ensures.none j (omega (arith, a, i.from)) b) in
    i.count h acts st ∙ past ∙ ap (count_below F) c.threads_of-first.ensures.count
