-- What is said of a set of threads.
use Rattle.std.specs.Prelude.{ℕ, Bool}
use Rattle.cal_machine.specs.CoreSet.{has}
use Rattle.cal_machine.specs.declared.thread_set.ThreadSet.{ThreadSet}

-- whether the set has thread k
abbrev pub has_thread : ThreadSet → ℕ → Bool
has_thread set k = has set.numbers k
