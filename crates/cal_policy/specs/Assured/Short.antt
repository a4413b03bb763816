-- Tasks that book less than they are guaranteed, and what they lack.
use Rattle.std.specs.Prelude.{ℕ, ◌-◌, ◌==◌, ◌&&◌, Bool, not, nat_lt, nat_le, min}
use Rattle.std.specs.Prelude.{List, length, if◌then◌else◌}
use Rattle.std.specs.Option.{is_some}
use Rattle.cal_machine.specs.Table.{Table}
use Rattle.cal_machine.specs.TableTasks.{guaranteed_of, is_latency_critical, limit_of, thread_of}
use Rattle.cal_policy.specs.declared.history.action.Action.{Action}
use Rattle.cal_policy.specs.History.{holder_of, is_banned}
use Rattle.cal_policy.specs.Board.Counts.{is_free, booked_by}
use Rattle.cal_policy.specs.Pass.Choice.{count_below, sum_below}
use Rattle.cal_policy.specs.Pass.Grants.{may_book, thread_choice, thread_rank}
use Rattle.cal_policy.specs.Assured.InFlight.{pressing, helpers, new_helpers}
use Rattle.cal_policy.specs.Setting.{Setting}

-- short, of a latency-critical task: it books less than it is guaranteed
abbrev pub is_short : Table → List Action → ℕ → Bool
is_short table x t =
    is_latency_critical table t && nat_lt (booked_by table x t) (guaranteed_of table t)

-- how many cores a short task lacks; one that is not short lacks none
abbrev pub lacks : Table → List Action → ℕ → ℕ
lacks table x t = if is_short table x t then guaranteed_of table t - booked_by table x t else 0

-- core c is free and not banned
abbrev pub is_open : List Action → ℕ → Bool
is_open x c = is_free (holder_of x c) && not (is_banned x c)

-- how many cores are
abbrev pub open_cores : Table → List Action → ℕ
open_cores table x = count_below (is_open x) table.cores

-- how many late threads of task t have a helper on its way; of a short task only the helpers of this
-- pass count
abbrev pub surplus : Setting → List Action → ℕ → ℕ
surplus s x t = if is_short s.table x t then new_helpers s x t else helpers s x t

-- task t waits: more of its threads press than have a helper, it may book one more core, and it has a
-- thread that may be granted one
abbrev pub waits : Setting → List Action → ℕ → Bool
waits s x t = nat_lt (surplus s x t) (pressing s x t)
    && may_book s x t && is_some (thread_choice s x t)

-- task t is short and waits
abbrev pub waits_short : Setting → List Action → ℕ → Bool
waits_short s x t = is_short s.table x t && waits s x t

-- how many cores task t lacks, where it is short and waits
abbrev pub lacks_waiting : Setting → List Action → ℕ → ℕ
lacks_waiting s x t = if waits s x t then lacks s.table x t else 0

-- how many all short tasks lack that wait
abbrev pub lacking : Setting → List Action → ℕ
lacking s x = sum_below (lacks_waiting s x) (length s.table.tasks)

-- how many threads of task t may be granted a core
abbrev pub spare : Setting → List Action → ℕ → ℕ
spare s x t =
    count_below (λ j. is_some (thread_rank s x (thread_of s.table t j))) (limit_of s.table t)

-- how many cores a short task could be granted in this pass: it lacks so many, has so many late threads
-- for them, and so many threads that may be granted one
abbrev pub needs : Setting → List Action → ℕ → ℕ
needs s x t = min (lacks s.table x t) (min (pressing s x t) (spare s x t))

-- some short task waits
abbrev pub some_waits_short : Setting → List Action → Bool
some_waits_short s x = not (count_below (waits_short s x) (length s.table.tasks) == 0)

-- some short task waits, and no more cores are open than are lacking: each of them is
-- lacked
abbrev pub are_lacked : Setting → List Action → Bool
are_lacked s x = some_waits_short s x && nat_le (open_cores s.table x) (lacking s x)

-- some short task waits, and fewer cores are open than are lacking: one more is wanted
abbrev pub are_wanted : Setting → List Action → Bool
are_wanted s x = some_waits_short s x && nat_lt (open_cores s.table x) (lacking s x)
