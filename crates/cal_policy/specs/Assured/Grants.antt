-- The last part of a pass of this policy: each task that waits gets a core, or has one revoked for
-- it, and a short one acts until it has all that it lacks. (After Caladan's core allocator; who comes
-- first, what is kept for whom and when a core is taken from another task are Doranjei's own.)
use Rattle.std.specs.Prelude.{ℕ, ◌&&◌, ◌||◌, Bool, not, List, [], length, Option, Some, None}
use Rattle.std.specs.Prelude.{if◌then◌else◌}
use Rattle.cal_policy.specs.declared.history.action.Action.{Action}
use Rattle.cal_policy.specs.History.Lists.{in_turn}
use Rattle.cal_policy.specs.Pass.Grants.{thread_choice, grant_of}
use Rattle.cal_policy.specs.Assured.Acted.{has_acted}
use Rattle.cal_policy.specs.Assured.Short.{is_short, waits}
use Rattle.cal_policy.specs.Assured.Order.{task_in_place}
use Rattle.cal_policy.specs.Assured.Taking.{choice_for}
use Rattle.cal_policy.specs.Setting.{Setting, so_far}

-- task t may act: it is short, or has not acted in this pass
abbrev pub may_act : Setting → List Action → ℕ → Bool
may_act s acts t = is_short s.table (so_far s acts) t || not (has_acted s.table acts t)

-- an act of task t: where it waits and may act it gets what is chosen for it, an idle core is granted,
-- another revoked
abbrev pub act_of : Setting → List Action → ℕ → List Action
act_of s acts t = if waits s (so_far s acts) t && may_act s acts t
    then grant_of s t (thread_choice s (so_far s acts) t) (choice_for s acts t) else []

-- the same, of the task in a place of the order, if there is one
abbrev pub act_in_place : Setting → List Action → Option ℕ → List Action
act_in_place s acts None = []
act_in_place s acts (Some t) = act_of s acts t

-- its first so many acts; after one that finds nothing to do all others find nothing
abbrev pub acts_in_place : ℕ → Setting → Option ℕ → List Action → List Action
acts_in_place many s task acts = in_turn (λ made act. act_in_place s made task) acts many

-- its turn: each act takes a core, so that it acts no more often than there are cores
abbrev pub turn_in_place : Setting → List Action → Option ℕ → List Action
turn_in_place s acts task = acts_in_place s.table.cores s task acts

-- the turns of the first so many tasks, in the order that is fixed where the part begins
abbrev pub grants_of_first : ℕ → Setting → List Action → List Action
grants_of_first many s acts =
    in_turn (λ made place. turn_in_place s made (task_in_place s (so_far s acts) place)) acts many

-- all tasks
abbrev pub grants : Setting → List Action → List Action
grants s acts = grants_of_first (length s.table.tasks) s acts
