-- The clocks of a run that is made.
use Rattle.std.specs.Prelude.{◌≡◌, ◌≤◌, ◌+◌, ◌*◌, ◌/◌, nat_lt, ℕ, List, length}
use Rattle.std.specs.Prelude.{Some, slice_get, if◌then◌else◌}
use Rattle.cal_load.specs.declared.clocks.Timing.{Timing}
use Rattle.cal_load.specs.declared.clocks.TheConstants.{MOST_TICKS}
use Rattle.cal_trace.specs.declared.arrivals.GivenPass.{GivenPass}
use Rattle.cal_trace.specs.declared.arrivals.reading.TheConstants.{MOST_TURNS}

-- 1 to as many turns as arrivals may have, of 1 to 1,000,000,000 ticks each
pub record IsTiming (timing : Timing) : Type 0 where
  pub some_turns : 1 ≤ timing.turns
  pub most_turns : timing.turns ≤ MOST_TURNS
  pub some_ticks : 1 ≤ timing.ticks
  pub most_ticks : timing.ticks ≤ MOST_TICKS

-- so many things, the one at each place being this
pub record AreAt {X : Type 0} (many : ℕ) (at : ℕ → X) (xs : List X) : Type 0 where
  pub long : length xs ≡ many
  pub each : (k : ℕ) (x : X) → slice_get xs k ≡ Some x → x ≡ at k

-- the clock of a pass: as many whole turns as it has a number from 1
abbrev pub pass_clock : Timing → ℕ → ℕ
pass_clock timing k = timing.ticks * (k + 1)

-- the clock of a turn: half a turn after its pass
abbrev pub turn_clock : Timing → ℕ → ℕ
turn_clock timing k = timing.ticks * (k + 1) + timing.ticks / 2

-- where there is no such turn, 0
abbrev pub clock_to : Timing → ℕ → ℕ
clock_to timing k = if nat_lt k timing.turns then turn_clock timing k else 0

-- one pass before each turn, whose bandwidth figure is 0
abbrev pub ArePassesOf : Timing → List GivenPass → Type 0
ArePassesOf timing passes =
    AreAt timing.turns (λ k. record { now = pass_clock timing k; bandwidth = 0 }) passes

abbrev pub AreTurnsOf : Timing → List ℕ → Type 0
AreTurnsOf timing turns = AreAt timing.turns (turn_clock timing) turns
