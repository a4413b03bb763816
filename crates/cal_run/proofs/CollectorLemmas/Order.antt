-- The order in which passes and turns are made, step by step.
use Rattle.cal_run.proofs.Common.{◌≡◌, ◌+◌, ℕ, suc, List, ◌∷◌, subst, arith, Made, a_pass, turn_of, then_passes, then_turns, then_round, then_rounds}

module _ (made : List Made) (P : List Made → Type 0) where
  pub no-turns : P made → P (then_turns 0 made)
  unfolding then_turns
  no-turns held = held

  pub no-passes : P made → P (then_passes 0 made)
  unfolding then_passes
  no-passes held = held

module _ (k : ℕ) (made : List Made) (P : List Made → Type 0) where
  pub one-turn : P (turn_of k ∷ then_turns k made) → P (then_turns (k + 1) made)
  unfolding then_turns
  one-turn held = let next : suc k ≡ k + 1 = omega arith in subst (λ n. P (then_turns n made)) next held

  pub one-pass : P (a_pass ∷ then_passes k made) → P (then_passes (k + 1) made)
  unfolding then_passes
  one-pass held = let next : suc k ≡ k + 1 = omega arith in subst (λ n. P (then_passes n made)) next held

-- after as many as there are
pub all-turns : (k n : ℕ) (made : List Made) (P : List Made → Type 0) → P (then_turns k made) → k ≡ n → P (then_turns n made)
all-turns k n made P held same = subst (λ m. P (then_turns m made)) same held

pub all-passes : (k n : ℕ) (made : List Made) (P : List Made → Type 0) → P (then_passes k made) → k ≡ n → P (then_passes n made)
all-passes k n made P held same = subst (λ m. P (then_passes m made)) same held

-- the rounds of lockstep
module _ (passes turns threads : ℕ) (made : List Made) (P : List Made → Type 0) where
  pub no-rounds : P made → P (then_rounds passes turns threads 0 made)
  unfolding then_rounds
  no-rounds held = held

  pub one-round : (r : ℕ) → P (then_round passes turns threads r (then_rounds passes turns threads r made)) → P (then_rounds passes turns threads (r + 1) made)
  unfolding then_rounds
  one-round r held = let next : suc r ≡ r + 1 = omega arith in subst (λ n. P (then_rounds passes turns threads n made)) next held
