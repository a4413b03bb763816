-- The clocks of a paced run. Turn j keeps its clock, and the passes before it, as many to each turn,
-- stand evenly between the turn before and it.
use Rattle.std.specs.Prelude.{◌≡◌, ℕ, zero, suc, ◌+◌, ◌-◌, ◌*◌, ◌/◌, ◌<◌, List, [], ◌∷◌, length}
use Rattle.std.specs.Prelude.{Some, slice_get, slice_index}
use Rattle.cal_trace.specs.declared.arrivals.GivenPass.{GivenPass}

-- The clock before the first of these turns: as far before it as the second is after it. It is 0
-- where there is no second, or where that would be below 0.
abbrev pub before_first : List ℕ → ℕ
before_first [] = 0
before_first (first ∷ []) = 0
before_first (first ∷ (second ∷ later)) = first - (second - first)

-- the clock of the turn before turn j
abbrev pub clock_before : List ℕ → ℕ → ℕ
clock_before turns zero = before_first turns
clock_before turns (suc j) = slice_index turns j

-- The clock of pass i, from 0, of those that stand before a turn: from the turn back to the one
-- before it is cut into one part more than there are passes, and what lies between pass and turn is
-- rounded down.
abbrev pub pass_clock : (pace before turn i : ℕ) → ℕ
pass_clock pace before turn i = turn - (turn - before) * (pace - i) / (pace + 1)

-- pass i of those before turn j, of all passes
abbrev pub pass_of : (pace j i : ℕ) → ℕ
pass_of pace j i = pace * j + i

-- there are as many passes to each of these turns, and they stand evenly
pub record StandEvenly (pace : ℕ) (turns : List ℕ) (passes : List GivenPass) : Type 0 where
  pub many : length passes ≡ pace * length turns
  pub each : (j i : ℕ) (pass : GivenPass) → j < length turns → i < pace →
      slice_get passes (pass_of pace j i) ≡ Some pass →
      pass.now ≡ pass_clock pace (clock_before turns j) (slice_index turns j) i
