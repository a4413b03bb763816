-- The cores that a task can lose.
use Rattle.std.specs.Prelude.{◌≡◌, ℕ, ◌<◌, true, Option, if◌then◌else◌}
use Rattle.std.specs.Option.{IfSome}
use Rattle.cal_machine.specs.Table.{Table}
use Rattle.cal_machine.specs.TableTasks.{is_latency_critical, guaranteed_of}
use Rattle.cal_policy.specs.declared.board.Board.{Board}
use Rattle.cal_policy.specs.Board.Counts.{is_held_for}
use Rattle.cal_policy.specs.Board.{holder_in}

-- task t holds this core of the table, if there is one
abbrev pub HoldsCore : Table → Board → ℕ → Option ℕ → Type 0
HoldsCore table b t core = IfSome core (λ c. (c < table.cores)
    × (is_held_for table t (holder_in b.holding c) ≡ true))

-- how many of its cores task t cannot lose to another: of a latency-critical one as many as it is
-- guaranteed, of a best-effort one none
abbrev pub secure_of : Table → ℕ → ℕ
secure_of table t = if is_latency_critical table t then guaranteed_of table t else 0
