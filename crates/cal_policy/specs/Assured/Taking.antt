-- Which core a task takes: an open one that is not kept from it, else one that another task holds.
use Rattle.std.specs.Prelude.{ℕ, ◌+◌, ◌==◌, ◌&&◌, ◌||◌, Bool, false, not, nat_lt}
use Rattle.std.specs.Prelude.{List, Option, Some, None, if◌then◌else◌}
use Rattle.std.specs.Option.{option_or}
use Rattle.cal_machine.specs.Machine.{sibling_of}
use Rattle.cal_machine.specs.TableTasks.{owner_of, is_latency_critical}
use Rattle.cal_policy.specs.declared.history.action.Action.{Action}
use Rattle.cal_policy.specs.declared.history.core_class.CoreClass.{CoreClass}
use Rattle.cal_policy.specs.declared.board.holders.Holder.{Holder}
use Rattle.cal_policy.specs.declared.board.holders.Holder.TheVariants as holders
use Rattle.cal_policy.specs.declared.pass.choice.Candidate.{Candidate}
use Rattle.cal_policy.specs.History.CoreClasses.{comes_before}
use Rattle.cal_policy.specs.History.{holder_of, last_thread}
use Rattle.cal_policy.specs.Pass.Choice.{best_below}
use Rattle.cal_policy.specs.Pass.Grants.{idle_class, preempt_class, is_granted_in}
use Rattle.cal_policy.specs.Assured.Acted.{has_acted}
use Rattle.cal_policy.specs.Assured.InFlight.{pressing, coming}
use Rattle.cal_policy.specs.Assured.Owed.{owed_to, is_task, owed_below}
use Rattle.cal_policy.specs.Assured.Short.{is_short, lacks, needs, is_open, surplus}
use Rattle.cal_policy.specs.Assured.Short.{waits, waits_short}
use Rattle.cal_policy.specs.Setting.{Setting, so_far, is_held_with_room}

-- a core that is owed to this task is kept from task t, which is not short: the task is another and
-- waits
abbrev pub is_kept_for : Setting → List Action → ℕ → Option ℕ → Bool
is_kept_for s x t None = false
is_kept_for s x t (Some u) = not (u == t) && waits s x u

-- core c, which is owed to this task, is kept from task t, which is short: the task is another, is
-- short too and waits, and fewer lower cores are owed to it than it needs
abbrev pub is_kept_for_short : Setting → List Action → ℕ → ℕ → Option ℕ → Bool
is_kept_for_short s x t c None = false
is_kept_for_short s x t c (Some u) = not (u == t) && waits_short s x u
    && nat_lt (owed_below x u c) (needs s x u)

-- the open core c is kept from task t
abbrev pub is_kept : Setting → List Action → ℕ → ℕ → Bool
is_kept s x t c =
    if is_short s.table x t then is_kept_for_short s x t c (owed_to x c)
    else is_kept_for s x t (owed_to x c)

-- task t may take core c: it is open, and not kept from the task
abbrev pub may_take : Setting → List Action → ℕ → ℕ → Bool
may_take s x t c = is_open x c && not (is_kept s x t c)

-- the class of a core that task t may take: one of the idle ones
abbrev pub open_class : Setting → List Action → ℕ → ℕ → Option CoreClass
open_class s x t c = if may_take s x t c
    then Some (idle_class s.table t (holder_of x (sibling_of c)) (last_thread x c)) else None

-- the same, of a core that is owed to the task
abbrev pub owed_class : Setting → List Action → ℕ → ℕ → Option CoreClass
owed_class s x t c = if is_task t (owed_to x c) then open_class s x t c else None

-- the one or the other
abbrev pub class_to_take : Bool → Setting → List Action → ℕ → ℕ → Option CoreClass
class_to_take owed s x t c = if owed then owed_class s x t c else open_class s x t c

-- of the cores that task t may take the one of the least class, the lowest of those; the ones owed
-- to it come first
abbrev pub open_choice : Setting → List Action → ℕ → Option (Candidate CoreClass)
open_choice s x t = option_or (best_below comes_before (owed_class s x t) s.table.cores)
    (best_below comes_before (open_class s x t) s.table.cores)

-- fewer cores are coming to task t than it lacks
abbrev pub fewer_come : Setting → List Action → ℕ → Bool
fewer_come s x t = nat_lt (coming s x t) (lacks s.table x t)

-- task t may take a core that this task holds: from a latency-critical one only where fewer are coming
-- than it lacks
abbrev pub may_take_from : Setting → List Action → ℕ → ℕ → Bool
may_take_from s x t other = not (is_latency_critical s.table other) || fewer_come s x t

-- the class of a core that another task holds: its holder's ring has room, the core was not granted in
-- this pass, and the task may take it from its holder
abbrev pub held_class : Setting → List Action → ℕ → ℕ → Holder → Option CoreClass
held_class s acts t c holders.Free = None
held_class s acts t c (holders.Held placement) =
    if is_held_with_room s (holders.Held placement) && not (is_granted_in acts c)
    && may_take_from s (so_far s acts) t (owner_of s.table placement.thread)
    then preempt_class s.table (so_far s acts) t (owner_of s.table placement.thread) else None
held_class s acts t c (holders.Leaving placement cause) = None

-- of those the one of the least class, the lowest of those
abbrev pub held_choice : Setting → List Action → ℕ → Option (Candidate CoreClass)
held_choice s acts t = best_below comes_before
    (λ c. held_class s acts t c (holder_of (so_far s acts) c)) s.table.cores

-- more threads of task t press than cores are coming to it and helpers on their way
abbrev pub more_press : Setting → List Action → ℕ → Bool
more_press s x t = nat_lt (coming s x t + surplus s x t) (pressing s x t)

-- a core may be revoked for task t: it is latency-critical, more of its threads press than cores are
-- coming to it and helpers on their way, and it has not acted in this pass, or fewer are coming than it
-- lacks
abbrev pub may_preempt : Setting → List Action → ℕ → Bool
may_preempt s acts t =
    is_latency_critical s.table t && more_press s (so_far s acts) t
    && (not (has_acted s.table acts t) || fewer_come s (so_far s acts) t)

-- the choice for task t: a core that it may take; where there is none, and one may be revoked for
-- it, one that another task holds
abbrev pub choice_for : Setting → List Action → ℕ → Option (Candidate CoreClass)
choice_for s acts t = option_or (open_choice s (so_far s acts) t)
    (if may_preempt s acts t then held_choice s acts t else None)
