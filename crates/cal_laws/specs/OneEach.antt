-- How much one pass sends.
use Rattle.std.specs.Prelude.{◌≡◌, ◌≢◌, ℕ, ◌+◌, ◌<◌, ◌≤◌, true, length, take, Some, slice_get}
use Rattle.cal_policy.specs.declared.history.action.Action.{Action}
use Rattle.cal_policy.specs.declared.history.action_list.TheConstants.{MOST_ACTIONS}
use Rattle.cal_policy.specs.History.{actions_of, sent_to, sends}
use Rattle.cal_policy.specs.Setting.{has_room}
use Rattle.cal_laws.specs.Point.{Point, IsPoint, setting_at, actions_at, next_at}
use Rattle.cal_laws.specs.Turns.{task_served, turn_of}

-- a command is sent only to a thread whose ring has room
abbrev pub CommandsGoWhereIsRoom : Type 0
CommandsGoWhereIsRoom = (here : Point) → IsPoint here → (action : Action) →
    next_at here ≡ Some action →
    (k : ℕ) → 0 < length (sends k (actions_at here) action) → has_room (setting_at here) k ≡ true

-- each action comes in its turn, strictly after each that was made before it in the pass
abbrev pub ActionsComeInTurn : Type 0
ActionsComeInTurn = (here : Point) → IsPoint here → (action : Action) → next_at here ≡ Some action →
    (j : ℕ) (earlier : Action) → j < here.made → slice_get here.entry.actions j ≡ Some earlier →
    turn_of here.table earlier < turn_of here.table action

-- a pass makes at most one grant or preemption for each task: where one is made, none was made for
-- the same task before it
abbrev pub TasksAreServedOnce : Type 0
TasksAreServedOnce = (here : Point) → IsPoint here → (action : Action) (t : ℕ) →
    next_at here ≡ Some action → task_served here.table action ≡ Some t →
    (j : ℕ) (earlier : Action) → j < here.made → slice_get here.entry.actions j ≡ Some earlier →
    task_served here.table earlier ≢ Some t

-- at every point a pass has sent each thread at most one command
abbrev pub ThreadsAreSentOneCommand : Type 0
ThreadsAreSentOneCommand = (here : Point) → IsPoint here → (k : ℕ) →
    sent_to (actions_at here) k ≤ sent_to (actions_of (take here.pass here.history)) k + 1

-- a pass has at most MOST_ACTIONS actions
abbrev pub PassesAreShort : Type 0
PassesAreShort = (here : Point) → IsPoint here → length here.entry.actions ≤ MOST_ACTIONS
