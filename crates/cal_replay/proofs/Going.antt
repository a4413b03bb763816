-- A list that is gone over place by place: each member becomes another.
use Rattle.std.proofs.Common.{◌≡◌, ◌≢◌, ℕ, ◌+◌, ◌<◌, ◌≤◌, ⊎_elim, List, length, set, Some, slice_get, slice_index_or, refl, sym, ap, subst, ◌∙◌, arith}
use Rattle.std.proofs.Math.ListN.{length-set}
use Rattle.std.proofs.lemmas.Bool.{cases_lt}
use Rattle.std.specs.Option.{unwrap_or}
use Rattle.std.proofs.lemmas.Option.{unwrap_or-slice_get}
use Rattle.cal_sched.proofs.Lists.{slice_get-set_other, slice_get-set_same}
use Rattle.cal_machine.proofs.Last.{some_same}

-- a member that is there is the one that is read
pub index_is : {X : Type 0} (xs : List X) (k : ℕ) (d x : X) → slice_get xs k ≡ Some x → slice_index_or xs k d ≡ x
index_is xs k d x at = sym (unwrap_or-slice_get xs k d) ∙ ap (λ o. unwrap_or o d) at

-- P holds of what the first k were and what they are, and the others are as they were
pub record GoneTo {X : Type 0} (P : ℕ → X → X → Type 0) (k : ℕ) (before now : List X) : Type 0 where
  pub same_many : length now ≡ length before
  pub each : (j : ℕ) (was is : X) → j < k → slice_get before j ≡ Some was → slice_get now j ≡ Some is → P j was is
  pub rest : (j : ℕ) → k ≤ j → slice_get now j ≡ slice_get before j

module _ {X : Type 0} (P : ℕ → X → X → Type 0) where
  pub gone-none : (before : List X) → GoneTo P 0 before before
  gone-none before = record { same_many = refl; each = λ j was is lt e f. absurd (omega (arith, lt)); rest = λ j le. refl }

  -- one member more
  pub gone-more : (k : ℕ) (before now : List X) (is : X) → k < length before → GoneTo P k before now
      → ((was : X) → slice_get now k ≡ Some was → P k was is) → GoneTo P (k + 1) before (set now k is)
  gone-more k before now is within gone here =
      let many : length now ≡ length before = gone.same_many in
      let wide : k < length now = omega (arith, many, within) in
      record {
        same_many = length-set now k is ∙ many;
        each = λ j was after lt f g. ⊎_elim
            (λ low.
            let other : j ≢ k = omega (arith, low) in
            gone.each j was after low f (sym (slice_get-set_other now k j is other) ∙ g))
            (λ high.
            let at : j ≡ k = omega (arith, lt, high) in
            let g_at : slice_get (set now k is) k ≡ Some after = subst (λ n. slice_get (set now k is) n ≡ Some after) at g in
            let f_at : slice_get before k ≡ Some was = subst (λ n. slice_get before n ≡ Some was) at f in
            let same : is ≡ after = some_same is after (sym (slice_get-set_same now k is wide) ∙ g_at) in
            let stood : slice_get now k ≡ Some was = gone.rest k (omega arith) ∙ f_at in
            subst (λ n. P n was after) (sym at) (subst (λ x. P k was x) same (here was stood)))
            (cases_lt j k);
        rest = λ j le.
            let other : j ≢ k = omega (arith, le) in
            slice_get-set_other now k j is other ∙ gone.rest j (omega (arith, le));
      }
