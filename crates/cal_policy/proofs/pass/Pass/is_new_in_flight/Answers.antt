-- The cores between those that the pass granted are none of them.
use Rattle.cal_policy.proofs.Common.{◌≡◌, ◌<◌, ◌≤◌, ◌&&◌, ℕ, Bool, true, false, List, not, eqb, refl, sym, ap, ◌∙◌, arith, Action, is_untaken, made_now, holder_of, setting_in, count_below, is_granted_in, Setting, so_far, kept_now}
use Rattle.cal_policy.proofs.AssuredLemmas.Acts.{made_are}
use Rattle.cal_policy.proofs.AssuredLemmas.Counting.{count_skip, some_passes, none_passes}
use Rattle.cal_policy.proofs.BoardLemmas.StateKept.{none_more}
use Rattle.cal_policy.proofs.pass.Pass.is_new_in_flight.Goals as goal

-- whether the core was granted in the pass to the thread, which has not taken its Run
abbrev newly : Setting → List Action → ℕ → ℕ → Bool
newly s acts k c = is_granted_in acts c && is_untaken (kept_now s k) k (holder_of (so_far s acts) c)

-- the same of all actions so far
as_made : (s : Setting) (acts : List Action) (k : ℕ) → not (eqb (count_below (newly s acts k) s.table.cores) 0)
    ≡ not (eqb (count_below (λ c. is_granted_in (made_now s (so_far s acts)) c && is_untaken (kept_now s k) k (holder_of (so_far s acts) c)) s.table.cores) 0)
as_made s acts k = ap (λ l. not (eqb (count_below (λ c. is_granted_in l c && is_untaken (kept_now s k) k (holder_of (so_far s acts) c)) s.table.cores) 0)) (sym (made_are s acts))

not_granted : (g u : Bool) → g ≡ false → (g && u) ≡ false
not_granted true u e = cc
not_granted false u e = refl

both : (g u : Bool) → g ≡ true → u ≡ true → (g && u) ≡ true
both true u e f = f
both false u e f = cc

second : (g u : Bool) → u ≡ false → (g && u) ≡ false
second true u e = e
second false u e = refl

pub loop-core-preserved : goal.loop-core-preserved
loop-core-preserved c = record {
  none = λ h acts st.
      let s = setting_in c.args.self.now h in
      let core = c.in-Some.core in
      let k = c.args.thread in
      let high : core ≤ 128 = omega (arith, c.in-Some.ensures.next.1, c.requires.at_hand.accepted.machine.most) in
      none_more (newly s acts k) core
      (sym (count_skip (newly s acts k) c.loop-core.first core c.in-Some.ensures.next.0
      (λ i from to. not_granted (is_granted_in acts i) _ (sym (st.fresh.fresh i (omega (arith, to, high))) ∙ c.in-Some.ensures.between i from to)))
      ∙ c.loop-core.invariant.none h acts st)
      (second (is_granted_in acts core) _ (sym (c.is_untaken_on.ensures h acts st) ∙ c.if-is_untaken_on.false));
  first = omega (arith, c.in-Some.ensures.next.1);
}

pub returns-then-is_untaken_on : goal.returns-then-is_untaken_on
returns-then-is_untaken_on c = λ h acts st.
    let s = setting_in c.args.self.now h in
    let core = c.in-Some.core in
    let low : core < 128 = omega (arith, c.in-Some.ensures.next.1, c.requires.at_hand.accepted.machine.most) in
    some_passes (newly s acts c.args.thread) s.table.cores core c.in-Some.ensures.next.1
    (both (is_granted_in acts core) _ (sym (st.fresh.fresh core low) ∙ c.in-Some.ensures.member) (sym (c.is_untaken_on.ensures h acts st) ∙ c.if-is_untaken_on.true))
    ∙ as_made s acts c.args.thread

pub returns : goal.returns
returns c = λ h acts st.
    let s = setting_in c.args.self.now h in
    let k = c.args.thread in
    let high : s.table.cores ≤ 128 = c.requires.at_hand.accepted.machine.most in
    none_passes (newly s acts k) s.table.cores s.table.cores refl
    (sym (count_skip (newly s acts k) c.loop-core.first s.table.cores c.loop-core.invariant.first
    (λ i from to. not_granted (is_granted_in acts i) _ (sym (st.fresh.fresh i (omega (arith, to, high))) ∙ c.in_default.ensures.none i from to)))
    ∙ c.loop-core.invariant.none h acts st)
    ∙ as_made s acts k
