-- The turns of a pass of each policy. Of Caladan's these are the definitions of Turns.antt, of the
-- second policy's those of AssuredTurns.antt.
use Rattle.std.specs.Prelude.{ℕ, ◌<◌, List, length, Option, None, slice_index_or}
use Rattle.std.specs.Option.{IfSome}
use Rattle.cal_machine.specs.Table.{Table}
use Rattle.cal_machine.specs.declared.task_table.TheConstants.{MOST_TASKS}
use Rattle.cal_policy.specs.declared.history.action.Action.{Action}
use Rattle.cal_policy.specs.declared.explain.turn.Turn.{Turn}
use Rattle.cal_policy.specs.declared.explain.turn.Turn.TheVariants.{Placed}
use Rattle.cal_policy.specs.declared.policy.Policy.{Policy}
use Rattle.cal_policy.specs.declared.policy.Policy.TheVariants.{Caladan, Assured}
use Rattle.cal_policy.specs.Assured.Pass.{bounded_of}
use Rattle.cal_policy.specs.Explain.AssuredTurns as assured
use Rattle.cal_policy.specs.Explain.AssuredTurns.{IsOrder}
use Rattle.cal_policy.specs.Explain.Turns.{next_turn, made_before, made_in}
use Rattle.cal_policy.specs.Pass.{followed}
use Rattle.cal_policy.specs.Setting.{Setting}

-- the turn that comes next
abbrev pub next_turn_by : Policy → Table → Turn → Turn
next_turn_by Caladan table turn = next_turn table turn
next_turn_by Assured table turn = assured.next_turn table turn

-- the actions of the pass that come before a turn; at the end all of them
abbrev pub made_before_by : Policy → Setting → Turn → List Action
made_before_by Caladan s turn = made_before s turn
made_before_by Assured s turn = assured.made_before s turn

-- the actions that a turn makes after those
abbrev pub made_in_by : Policy → Setting → List Action → Turn → List Action
made_in_by Caladan s acts turn = made_in s acts turn
made_in_by Assured s acts turn = assured.made_in s acts turn

-- those that come before a turn, and then those that it makes
abbrev pub made_after_by : Policy → Setting → Turn → List Action
made_after_by policy s turn = followed (made_before_by policy s turn)
    (λ acts. made_in_by policy s acts turn)

-- at a turn by place the order is the one that was fixed where grants began
abbrev pub KeepsOrder : Policy → Setting → Turn → List (Option ℕ) → Type 0
KeepsOrder Caladan s turn order = Unit {0}
KeepsOrder Assured s (Placed place act) order = IsOrder s (bounded_of s) order
KeepsOrder Assured s turn order = Unit {0}

-- the order names tasks of the table
abbrev pub NamesTasks : Table → List (Option ℕ) → Type 0
NamesTasks table order = (place : ℕ) → place < MOST_TASKS →
    IfSome (slice_index_or order place None) (λ t. t < length table.tasks)
