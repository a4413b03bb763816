-- When the requests of a run came, and when the run ended.
use Rattle.std.specs.Prelude.{◌≡◌, ℕ, ◌-◌, nat_eq, List, length, Option, Some, None}
use Rattle.std.specs.Prelude.{slice_index_or, slice_get, max}
use Rattle.std.specs.HashMap.{get}
use Rattle.cal_came.specs.Came.{told_of}
use Rattle.cal_came.specs.declared.came.Came.{Came}
use Rattle.cal_trace.specs.declared.arrivals.Arrivals.{Arrivals}
use Rattle.cal_trace.specs.declared.arrivals.GivenPass.{GivenPass}
use Rattle.cal_measure.specs.declared.clocks.ArrivalClocks.{ArrivalClocks}

-- the clock of the last turn, 0 where there is none
abbrev pub last_clock : List ℕ → ℕ
last_clock turns = slice_index_or turns (length turns - 1) 0

-- the clock of a pass, 0 where there is none
abbrev pub pass_clock : Option GivenPass → ℕ
pass_clock None = 0
pass_clock (Some pass) = pass.now

-- the clock of the last pass that is given
abbrev pub last_pass : List GivenPass → ℕ
last_pass passes = pass_clock (slice_get passes (length passes - 1))

-- the last clock of a run on these arrivals: that of its last turn, or of its last pass if that is
-- later
abbrev pub run_end : Arrivals → ℕ
run_end arrivals = max (last_clock arrivals.turns) (last_pass arrivals.passes)

-- how long the turns of a run last: from the clock of the first one to the run's last; without
-- turns no time
abbrev pub turns_last : Arrivals → ℕ
turns_last arrivals = run_end arrivals - slice_index_or arrivals.turns 0 (run_end arrivals)

-- it is known of each name how these requests came
pub record AreClocksOf (came : List Came) (clocks : ArrivalClocks) : Type 0 where
  pub same : (id : ℕ) → get nat_eq clocks.came id ≡ told_of came id
