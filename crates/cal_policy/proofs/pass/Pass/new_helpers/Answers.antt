use Rattle.cal_policy.proofs.Common.{◌≡◌, ◌+◌, ◌<◌, ◌&&◌, ℕ, false, not, refl, sym, ap, ◌∙◌, arith, thread_of, limit_of, holder_of, is_granted_in, is_late, is_untaken, kept_now, made_now, helps_newly, setting_in, count_below, Setting, Action, List, so_far}
use Rattle.cal_policy.proofs.AssuredLemmas.Acts.{made_are}
use Rattle.cal_policy.proofs.AssuredLemmas.Counting.{count_skip, counted_more, none_passes}
use Rattle.cal_policy.proofs.pass.Pass.new_helpers.Goals as goal

-- where the pass granted no core nothing is in flight since
none_new : (s : Setting) (acts : List Action) (k : ℕ) → ((c : ℕ) → c < s.table.cores → is_granted_in acts c ≡ false) → helps_newly s (so_far s acts) k ≡ false
none_new s acts k none =
    let x = so_far s acts in
    let not_one : (c : ℕ) → c < s.table.cores → (is_granted_in (made_now s x) c && is_untaken (kept_now s k) k (holder_of x c)) ≡ false = λ c lt.
    ap (λ b. b && is_untaken (kept_now s k) k (holder_of x c)) (ap (λ l. is_granted_in l c) (made_are s acts) ∙ none c lt) in
    ap (λ b. b && not (is_late s k))
    (sym (none_passes (λ c. is_granted_in (made_now s x) c && is_untaken (kept_now s k) k (holder_of x c)) s.table.cores s.table.cores refl
    (sym (count_skip (λ c. is_granted_in (made_now s x) c && is_untaken (kept_now s k) k (holder_of x c)) 0 s.table.cores (omega arith) (λ c from lt. not_one c lt)))))

pub returns-in_default-clause-count : goal.returns-in_default-clause-count
returns-in_default-clause-count c = λ h acts st.
    let s = setting_in c.args.self.now h in
    let t = c.args.task in
    let high = c.requires.at_hand.accepted.machine.most in
    count_skip (λ j. helps_newly s (so_far s acts) (thread_of s.table t j)) 0 (limit_of s.table t) (omega arith)
    (λ j from lt. none_new s acts (thread_of s.table t j) (λ core low. sym (st.fresh.fresh core (omega (arith, low, high))) ∙ c.in_default.ensures.none core (omega arith) low))

pub loop-j-preserved : goal.loop-j-preserved
loop-j-preserved c = record {
  count = λ h acts st.
      let s = setting_in c.args.self.now h in
      c.count_if-helpers.ensures.count ∙ counted_more (λ j. helps_newly s (so_far s acts) (thread_of s.table c.args.task j)) c.loop-j.j _ _ (c.loop-j.invariant.count h acts st)
      (c.helps_newly.ensures h acts st ∙ ap (λ first. helps_newly s (so_far s acts) (first + c.loop-j.j)) c.threads_of-first.ensures.first);
  few = omega (arith, c.loop-j.invariant.few, c.count_if-helpers.ensures.few);
}

pub returns-clause-count : goal.returns-clause-count
returns-clause-count c = λ h acts st.
    let s = setting_in c.args.self.now h in
    let all : c.loop-j.j ≡ limit_of s.table c.args.task = omega (arith, c.threads_of-first.ensures.count) in
    c.loop-j.invariant.count h acts st ∙ ap (count_below (λ j. helps_newly s (so_far s acts) (thread_of s.table c.args.task j))) all
