-- The rounds of a run on one thread.
use Rattle.std.specs.Prelude.{ℕ, length, min}
use Rattle.cal_machine.specs.Table.{Table}
use Rattle.cal_trace.specs.declared.arrivals.Arrivals.{Arrivals}
use Rattle.cal_run.specs.Parts.{AreParts}
use Rattle.cal_run.specs.declared.parts.Parts.{Parts}

-- the parts of a run after its first n rounds, each of which has one pass, one turn of each thread
-- and one round of the watch, as long as there are any left
abbrev pub AreAfterRounds : Table → Arrivals → ℕ → Parts → Type 0
AreAfterRounds table arrivals n parts =
    AreParts table arrivals (min n (length arrivals.passes)) (min n (length arrivals.turns))
    (min n parts.watch.most) parts
