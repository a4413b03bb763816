-- A list that is gone over place by place: each member becomes another, and gives something.
use Rattle.cal_sched.proofs.Common.{◌≡◌, ◌≢◌, ℕ, ◌+◌, ◌<◌, ◌≤◌, inl, inr, List, [], ◌∷◌, ◌++◌, length, set, Some, slice_get, refl, sym, ◌∙◌, arith, length-append, some_same, last_or_before}
use Rattle.std.proofs.Math.ListN.{length-set}
use Rattle.cal_sched.proofs.Lists.{slice_get-set_other, slice_get-set_same}

-- P holds of what the first k were, what they are and what each gave, and the others are as they were
pub record Below {X F : Type 0} (P : X → X → F → Type 0) (k : ℕ) (before now : List X) (found : List F) : Type 0 where
  pub same_many : length now ≡ length before
  pub count : length found ≡ k
  pub each : (j : ℕ) (was is : X) (one : F) → slice_get before j ≡ Some was → slice_get now j ≡ Some is → slice_get found j ≡ Some one → P was is one
  pub rest : (j : ℕ) → k ≤ j → slice_get now j ≡ slice_get before j

module _ {X F : Type 0} (P : X → X → F → Type 0) where
  pub Below-none : (before : List X) → Below P 0 before before []
  Below-none before = record { same_many = refl; count = refl; each = λ j was is one e f g. absurd (cc); rest = λ j le. refl }

  -- one member more
  pub Below-more : (k : ℕ) (before now : List X) (found : List F) (is : X) (one : F) → k < length before → Below P k before now found
      → ((was : X) → slice_get now k ≡ Some was → P was is one) → Below P (k + 1) before (set now k is) (found ++ one ∷ [])
  Below-more k before now found is one within below here =
      let same_many : length now ≡ length before = below.same_many in
      let wide : k < length now = omega arith in
      let count : length found ≡ k = below.count in
      record {
        same_many = length-set now k is ∙ same_many;
        count = omega (arith, length-append found (one ∷ []));
        each = λ j was after f e g h. elim (last_or_before found one f j h) [
          | inl l ↦
              let lt : j < length found = l.0 in
              let other : j ≢ k = omega arith in
              below.each j was after f e (sym (slice_get-set_other now k j is other) ∙ g) l.1
          | inr l ↦
              let at : j ≡ k = l.0 ∙ count in
              let same : is ≡ after = some_same is after (sym (slice_get-set_same now k is wide) ∙ rw at at g) in
              let stood : slice_get now k ≡ Some was = below.rest k (omega arith) ∙ rw at at e in
              rw (← same, ← l.1) (here was stood)
        ];
        rest = λ j le. let other : j ≢ k = omega arith in slice_get-set_other now k j is other ∙ below.rest j (omega arith);
      }
