use Rattle.cal_measure.proofs.Common.{◌≡◌, ◌+◌, ◌∙◌, ◌<◌, ◌≤◌, ℕ, Bool, List, cond, refl, ap, sym, arith, kept_holder, holder_of, is_banned, count_below, Holder, Action, count_more, one_at_most, is_in_state, CoreState}
use Rattle.cal_machine.specs.declared.machine.TheConstants.{MOST_CORES}
use Rattle.cal_policy.specs.declared.board.holders.Holder.TheVariants.{Free, Held, Leaving}
use Rattle.cal_measure.specs.declared.states.CoreState.TheVariants as states
use Rattle.cal_measure.proofs.states.count_states.Goals as goal

as_kept : (state : CoreState) (h : Holder) (b : Bool) → is_in_state state (kept_holder h) b ≡ is_in_state state h b
as_kept states.Held Free b = refl
as_kept states.Held (Held placement) b = refl
as_kept states.Held (Leaving placement cause) b = refl
as_kept states.Leaving Free b = refl
as_kept states.Leaving (Held placement) b = refl
as_kept states.Leaving (Leaving placement cause) b = refl
as_kept states.Banned Free b = refl
as_kept states.Banned (Held placement) b = refl
as_kept states.Banned (Leaving placement cause) b = refl
as_kept states.Free Free b = refl
as_kept states.Free (Held placement) b = refl
as_kept states.Free (Leaving placement cause) b = refl

-- a core whose holder and ban are kept counts in each state as the actions say
one_more : (state : CoreState) (x : List Action) (n old new : ℕ) (holder : Holder) (banned : Bool) →
    holder ≡ kept_holder (holder_of x n) → banned ≡ is_banned x n →
    new ≡ old + cond (is_in_state state holder banned) 1 0 →
    old ≡ count_below (λ c. is_in_state state (holder_of x c) (is_banned x c)) n →
    new ≡ count_below (λ c. is_in_state state (holder_of x c) (is_banned x c)) (n + 1)
one_more state x n old new holder banned is bans adds was =
    let f : ℕ → Bool = λ c. is_in_state state (holder_of x c) (is_banned x c) in
    let same : is_in_state state holder banned ≡ f n =
    ap (λ (h : Holder). is_in_state state h banned) is ∙ as_kept state (holder_of x n) banned ∙ ap (λ (b : Bool). is_in_state state (holder_of x n) b) bans in
    adds ∙ ap (λ m. m + cond (is_in_state state holder banned) 1 0) was ∙ ap (λ (b : Bool). count_below f n + cond b 1 0) same ∙ sym (count_more f n)

few_more : (b : Bool) (old new n : ℕ) → new ≡ old + cond b 1 0 → old ≤ n → new ≤ n + 1
few_more b old new n adds few = let one = one_at_most b in omega (arith, adds, few, one)

pub loop-core-preserved : goal.loop-core-preserved
loop-core-preserved c =
    let i = c.loop-core.invariant in
    let w = c.with_core-counts.ensures in
    let n = c.loop-core.core in
    let lt = c.loop-core-test.true in
    let size = c.limits.ensures.machine.most in
    let end = c.cores-core-end.ensures.value in
    let cores = c.machine.ensures.machine in
    let low : n < MOST_CORES = omega (arith, lt, end, cores, size) in
    record {
      many = λ x a.
          let was = i.many x a in
          let is = a.holding.holders n low in
          let bans = c.is_banned.ensures x a in
          record {
            held = one_more states.Held x n _ _ _ _ is bans w.held was.held;
            leaving = one_more states.Leaving x n _ _ _ _ is bans w.leaving was.leaving;
            banned = one_more states.Banned x n _ _ _ _ is bans w.banned was.banned;
            free = one_more states.Free x n _ _ _ _ is bans w.free was.free;
          };
      few = record {
        held = few_more _ _ _ n w.held i.few.held;
        leaving = few_more _ _ _ n w.leaving i.few.leaving;
        banned = few_more _ _ _ n w.banned i.few.banned;
        free = few_more _ _ _ n w.free i.few.free;
      };
    }
