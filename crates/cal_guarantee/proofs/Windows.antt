-- The passes p to p + d: what is being left for a task, and freed in the last of them.
use Rattle.cal_guarantee.proofs.Common.{◌≡◌, ℕ, ◌+◌, ◌-◌, ◌<◌, ◌≤◌, true, false, cond, ltb, List, [], length, Some, slice_get, refl, ap, sym, ◌∙◌, subst, arith, ⊎_elim, zero, suc, cases_lt, and_from, lt-ltb, eqb-true, and_right, Table, Action, PassEntry, Holder, actions_of, holder_of, Setting, so_far, frees, leaves_for, IsSteady, is_leaving, owed_to, left_for, WaitsFromTo}
use Rattle.cal_policy.specs.declared.history.action.Cause.TheVariants as causes
use Rattle.cal_policy.specs.declared.board.holders.Holder.TheVariants as holders
use Rattle.cal_guarantee.proofs.Freed.{was_left, after_frees, frees_steady}
use Rattle.cal_guarantee.proofs.Calm.{IsCalm, NoneLeaves, leaves_refl, leaves_chain, calm_frees}
use Rattle.cal_guarantee.proofs.PassTurns.{after_freed, pass_freed, after_steps, ToAny}
use Rattle.cal_guarantee.proofs.Left.{left_along}
use Rattle.cal_guarantee.proofs.Histories.{acts_to, setting_in, after_pass, steady_at, freed_was_left}

pub left_task : (t : ℕ) (h : Holder) → leaves_for t h ≡ true → left_for h ≡ Some t
left_task t holders.Free e = cc
left_task t (holders.Held p) e = cc
left_task t (holders.Leaving p (causes.Preempt task)) e = ap (λ n. Some n) (eqb-true task t e)
left_task t (holders.Leaving p (causes.Ban by)) e = cc
left_task t (holders.Leaving p causes.Bandwidth) e = cc

pub left_leaving : (t : ℕ) (h : Holder) → leaves_for t h ≡ true → is_leaving h ≡ true
left_leaving t holders.Free e = cc
left_leaving t (holders.Held p) e = cc
left_leaving t (holders.Leaving p cause) e = refl

-- what the pass frees, and what it does not
pub freed_holder : (s : Setting) (c : ℕ) → c < s.table.cores → was_left s c ≡ true → holder_of (so_far s (frees s [])) c ≡ holders.Free
freed_holder s c low e =
    (after_frees s).holder c ∙ ap (λ b. cond b holders.Free (holder_of (actions_of s.history) c)) (and_from (ltb c s.table.cores) (was_left s c) (lt-ltb c s.table.cores low) e)

pub freed_owed : (s : Setting) (c : ℕ) → c < s.table.cores → was_left s c ≡ true → owed_to (so_far s (frees s [])) c ≡ left_for (holder_of (actions_of s.history) c)
freed_owed s c low e =
    (after_frees s).owed c ∙ ap (λ b. cond b (left_for (holder_of (actions_of s.history) c)) (owed_to (actions_of s.history) c))
    (and_from (ltb c s.table.cores) (was_left s c) (lt-ltb c s.table.cores low) e)

pub kept_holder : (s : Setting) (c : ℕ) → was_left s c ≡ false → holder_of (so_far s (frees s [])) c ≡ holder_of (actions_of s.history) c
kept_holder s c e =
    (after_frees s).holder c ∙ ap (λ b. cond b holders.Free (holder_of (actions_of s.history) c)) (and_right (ltb c s.table.cores) (was_left s c) e)

module _ (table : Table) (history : List PassEntry) (t d p : ℕ) (w : WaitsFromTo table history t d p) where
  pub in_range : (q : ℕ) → q ≤ p + d → q < length history
  in_range q le = let all = w.passes in omega (arith, all, le)

  pub steady_in : (q : ℕ) → q ≤ p + d → IsSteady table (acts_to history q)
  steady_in q le = steady_at table history w.accepted w.legal q (let lt = in_range q le in omega (arith, lt))

  -- what is being left for the task where a pass begins, and is not freed in it, is being left for it after
  pub left_past : (q c : ℕ) (entry : PassEntry) → q ≤ p + d → slice_get history q ≡ Some entry → was_left (setting_in table history q entry) c ≡ false →
      leaves_for t (holder_of (acts_to history q) c) ≡ true → leaves_for t (holder_of (acts_to history (q + 1)) c) ≡ true
  left_past q c entry to e stays left =
      let s = setting_in table history q entry in
      let there : leaves_for t (holder_of (so_far s (frees s [])) c) ≡ true = ap (leaves_for t) (kept_holder s c stays) ∙ left in
      let same = left_along (Unit {0}) ToAny s t c (frees s []) (after_freed s) (after_steps s w.accepted) (frees_steady s (steady_in q to)) there in
      let P : List Action → Type 0 = λ x. leaves_for t (holder_of x c) ≡ true in
      let Q : List Action → Type 0 = λ all. leaves_for t (holder_of (so_far s all) c) ≡ true in
      subst P (sym (after_pass table history q entry w.legal e)) (subst Q (sym (pass_freed s)) (ap (leaves_for t) same ∙ there))

  -- what is being left from pass p on is freed in the last
  pub freed_last : (c : ℕ) (entry : PassEntry) → c < table.cores → slice_get history (p + d) ≡ Some entry → ((q : ℕ) → p < q → q ≤ p + d → is_leaving (holder_of (acts_to history q) c) ≡ true) →
      was_left (setting_in table history (p + d) entry) c ≡ true
  freed_last c entry low e stays =
      let s = setting_in table history (p + d) entry in
      let freed = w.left entry e c low (record { since = p; early = omega arith; left = stays }) in
      freed_was_left s freed.place c w.accepted (ap (λ xs. slice_get xs freed.place) (sym (w.legal.passes (p + d) entry e).actions) ∙ freed.freed)

  -- where the passes after p stay calm
  module _ (quiet : (q : ℕ) → p < q → q < p + d → IsCalm table (acts_to history q) → IsCalm table (acts_to history (q + 1)) × NoneLeaves (acts_to history q) (acts_to history (q + 1))) where
    -- calm after each pass, and what is being left there was being left after those before it
    calm_to : IsCalm table (acts_to history (p + 1)) → (n : ℕ) → n < d →
        IsCalm table (acts_to history (p + 1 + n)) × ((k : ℕ) → k ≤ n → NoneLeaves (acts_to history (p + 1 + k)) (acts_to history (p + 1 + n)))
    calm_to calm zero lt =
        let same : p + 1 ≡ p + 1 + 0 = omega arith in
        let P : ℕ → Type 0 = λ j. IsCalm table (acts_to history j) in (
          subst P same calm,
          λ k le. let zero_is : 0 ≡ k = omega (arith, le) in
              let Q : ℕ → Type 0 = λ j. NoneLeaves (acts_to history (p + 1 + j)) (acts_to history (p + 1 + 0)) in subst Q zero_is (leaves_refl (acts_to history (p + 1 + 0))),
        )
    calm_to calm (suc n) lt =
        let before = calm_to calm n (omega (arith, lt)) in
        let q = p + 1 + n in
        let there = quiet q (omega arith) (omega (arith, lt)) before.0 in
        let same : q + 1 ≡ p + 1 + suc n = omega arith in
        let C : ℕ → Type 0 = λ j. IsCalm table (acts_to history j) × NoneLeaves (acts_to history q) (acts_to history j) in
        let end = subst C same there in (
          end.0,
          λ k le. ⊎_elim
              (λ (l : k < suc n). leaves_chain (acts_to history (p + 1 + k)) (acts_to history q) (acts_to history (p + 1 + suc n)) (before.1 k (omega (arith, l))) end.1)
              (λ (g : suc n ≤ k). let top : suc n ≡ k = omega (arith, g, le) in
              let Q : ℕ → Type 0 = λ j. NoneLeaves (acts_to history (p + 1 + j)) (acts_to history (p + 1 + suc n)) in subst Q top (leaves_refl (acts_to history (p + 1 + suc n))))
              (cases_lt k (suc n)),
        )

    -- the last begins calm, and after its first part nothing is being left
    pub calm_last : IsCalm table (acts_to history (p + 1)) → (entry : PassEntry) → slice_get history (p + d) ≡ Some entry →
        IsCalm table (acts_to history (p + d)) × ((c : ℕ) → c < table.cores →
        is_leaving (holder_of (so_far (setting_in table history (p + d) entry) (frees (setting_in table history (p + d) entry) [])) c) ≡ true → ⊥)
    calm_last calm entry e =
        let some = w.some in
        let all = calm_to calm (d - 1) (omega (arith, some)) in
        let last : p + 1 + (d - 1) ≡ p + d = omega (arith, some) in
        let s = setting_in table history (p + d) entry in
        let P : ℕ → Type 0 = λ k. IsCalm table (acts_to history k) in
        let here : IsCalm table (acts_to history (p + d)) = subst P last all.0 in (
          here,
          λ c low is.
              let at_start = (calm_frees s here).1.before c is in
              let stays : (q : ℕ) → p < q → q ≤ p + d → is_leaving (holder_of (acts_to history q) c) ≡ true = λ q from to.
              let same : p + 1 + (q - (p + 1)) ≡ q = omega (arith, from) in
              let Q : ℕ → Type 0 = λ k. is_leaving (holder_of (acts_to history k) c) ≡ true in
              let there : is_leaving (holder_of (acts_to history (p + 1 + (d - 1))) c) ≡ true = subst Q (sym last) at_start in
              subst Q same ((all.1 (q - (p + 1)) (omega (arith, from, to, some))).before c there) in
              let free = freed_holder s c low (freed_last c entry low e stays) in
              let clash : false ≡ true = sym (ap is_leaving free) ∙ is in cc,
        )
