-- The turns of a pass of the second policy, and what each makes.
use Rattle.std.specs.Prelude.{◌≡◌, ℕ, ◌+◌, ◌<◌, nat_lt, if◌then◌else◌, List, [], length, Option}
use Rattle.std.specs.Prelude.{slice_index_or, None}
use Rattle.cal_machine.specs.Table.{Table}
use Rattle.cal_machine.specs.declared.task_table.TheConstants.{MOST_TASKS}
use Rattle.cal_policy.specs.declared.history.action.Action.{Action}
use Rattle.cal_policy.specs.declared.explain.turn.Turn.{Turn}
use Rattle.cal_policy.specs.declared.explain.turn.Turn.TheVariants.{Free, Unban, Ban, Bandwidth}
use Rattle.cal_policy.specs.declared.explain.turn.Turn.TheVariants.{LatencyCritical, BestEffort}
use Rattle.cal_policy.specs.declared.explain.turn.Turn.TheVariants.{Placed, End}
use Rattle.cal_policy.specs.Assured.Grants.{act_in_place, acts_in_place, grants_of_first}
use Rattle.cal_policy.specs.Assured.Hyperthreads.{unban_at, bans_at, bans}
use Rattle.cal_policy.specs.Assured.Order.{task_in_place}
use Rattle.cal_policy.specs.Assured.Pass.{unbanned_of, bounded_of, pass_of}
use Rattle.cal_policy.specs.Explain.Turns as caladan
use Rattle.cal_policy.specs.Explain.Turns.{next_in_part, freed_of}
use Rattle.cal_policy.specs.History.Lists.{in_turn}
use Rattle.cal_policy.specs.Pass.{followed}
use Rattle.cal_policy.specs.Pass.Bandwidth.{bandwidth_part}
use Rattle.cal_policy.specs.Pass.Frees.{free_at}
use Rattle.cal_policy.specs.Setting.{Setting, so_far}

-- the first act of the task in a place
abbrev pub first_act : ℕ → Turn
first_act place = Placed place 0

-- the turn that comes next: the cores' turns and that of the bandwidth figure as in a pass of
-- Caladan's, then for each place of the order as many acts as there are cores, and the end, which
-- stays; a pass of this policy has no other turns of tasks
abbrev pub next_turn : Table → Turn → Turn
next_turn table (Free core) = caladan.next_turn table (Free core)
next_turn table (Unban core) = caladan.next_turn table (Unban core)
next_turn table (Ban core) = caladan.next_turn table (Ban core)
next_turn table Bandwidth = first_act 0
next_turn table (LatencyCritical task) = End
next_turn table (BestEffort task) = End
next_turn table (Placed place act) = if nat_lt (act + 1) table.cores then Placed place (act + 1)
    else next_in_part (length table.tasks) first_act place End
next_turn table End = End

-- the task that has its turn in a place: the order is fixed where grants begin
abbrev pub placed_task : Setting → ℕ → Option ℕ
placed_task s place = task_in_place s (so_far s (bounded_of s)) place

-- the actions of the pass that come before a turn; at the end all of them
abbrev pub made_before : Setting → Turn → List Action
made_before s (Free core) = followed [] (λ acts. in_turn (free_at s) acts core)
made_before s (Unban core) = followed (freed_of s) (λ acts. in_turn (unban_at s) acts core)
made_before s (Ban core) = followed (unbanned_of s) (λ acts. in_turn (bans_at s) acts core)
made_before s Bandwidth = followed (unbanned_of s) (bans s)
made_before s (LatencyCritical task) = pass_of s
made_before s (BestEffort task) = pass_of s
made_before s (Placed place act) = followed (followed (bounded_of s) (grants_of_first place s))
    (acts_in_place act s (placed_task s place))
made_before s End = pass_of s

-- the actions that a turn makes after those
abbrev pub made_in : Setting → List Action → Turn → List Action
made_in s acts (Free core) = free_at s acts core
made_in s acts (Unban core) = unban_at s acts core
made_in s acts (Ban core) = bans_at s acts core
made_in s acts Bandwidth = bandwidth_part s acts
made_in s acts (LatencyCritical task) = []
made_in s acts (BestEffort task) = []
made_in s acts (Placed place act) = act_in_place s acts (placed_task s place)
made_in s acts End = []

-- the task in each place of the order, as it is where the actions acts of the pass are made
pub record IsOrder (s : Setting) (acts : List Action) (order : List (Option ℕ)) : Type 0 where
  pub placed : (place : ℕ) → place < MOST_TASKS →
      slice_index_or order place None ≡ task_in_place s (so_far s acts) place
