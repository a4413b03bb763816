-- The order of a paced run, round by round.
use Rattle.cal_paced.proofs.Common.{◌≡◌, ◌+◌, ℕ, suc, List, subst, arith, Made, then_round, then_rounds}

module _ (pace threads : ℕ) (made : List Made) (P : List Made → Type 0) where
  pub no-rounds : P made → P (then_rounds pace threads 0 made)
  unfolding then_rounds
  no-rounds held = held

  pub one-round : (n : ℕ) → P (then_round pace threads (then_rounds pace threads n made)) → P (then_rounds pace threads (n + 1) made)
  unfolding then_rounds
  one-round n held = let next : suc n ≡ n + 1 = omega arith in subst (λ m. P (then_rounds pace threads m made)) next held
