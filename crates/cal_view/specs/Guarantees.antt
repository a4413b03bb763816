-- Which task may have to wait for the cores that it is guaranteed, and for whom.
use Rattle.std.specs.Prelude.{ℕ, Bool, Option, ◌&&◌, nat_lt}
use Rattle.cal_machine.specs.Table.{Table}
use Rattle.cal_machine.specs.TableTasks.{guaranteed_of, limit_of, is_latency_critical}
use Rattle.cal_policy.specs.Pass.Choice.{lowest_below}

-- whether task t is guaranteed cores, and task u, which is latency-critical, may have more cores
-- than it is guaranteed
abbrev pub waits_behind : Table → ℕ → ℕ → Bool
waits_behind table t u = nat_lt 0 (guaranteed_of table t) && is_latency_critical table u
    && nat_lt (guaranteed_of table u) (limit_of table u)

-- The least of the tasks before task t for which it may have to wait. Cores are granted to the
-- latency-critical tasks by number, each up to its limit, and to best-effort ones after these; and
-- none is guaranteed to a best-effort task.
abbrev pub least_before : Table → ℕ → Option ℕ
least_before table t = lowest_below (waits_behind table t) t
