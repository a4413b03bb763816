-- The turns of a pass, and what each makes. PolicyTurns.antt has them by policy; those here are of
-- Caladan's.
use Rattle.std.specs.Prelude.{ℕ, ◌+◌, ◌<◌, nat_lt, if◌then◌else◌, List, [], length}
use Rattle.cal_machine.specs.Table.{Table}
use Rattle.cal_machine.specs.declared.task.Kind.TheVariants as kinds
use Rattle.cal_policy.specs.declared.history.action.Action.{Action}
use Rattle.cal_policy.specs.declared.history.action.Action.TheVariants as actions
use Rattle.cal_policy.specs.declared.history.action.Cause.TheVariants as causes
use Rattle.cal_policy.specs.declared.explain.turn.Part.{Part}
use Rattle.cal_policy.specs.declared.explain.turn.Part.TheVariants as parts
use Rattle.cal_policy.specs.declared.explain.turn.Turn.{Turn}
use Rattle.cal_policy.specs.declared.explain.turn.Turn.TheVariants.{Free, Unban, Ban, Bandwidth}
use Rattle.cal_policy.specs.declared.explain.turn.Turn.TheVariants.{LatencyCritical, BestEffort}
use Rattle.cal_policy.specs.declared.explain.turn.Turn.TheVariants.{Placed, End}
use Rattle.cal_policy.specs.History.Lists.{in_turn}
use Rattle.cal_policy.specs.Setting.{Setting}
use Rattle.cal_policy.specs.Pass.{pass_of, followed}
use Rattle.cal_policy.specs.Pass.Frees.{free_at, frees}
use Rattle.cal_policy.specs.Pass.Bans.{unban_at, unbans, bans_at, bans}
use Rattle.cal_policy.specs.Pass.Bandwidth.{bandwidth_part}
use Rattle.cal_policy.specs.Pass.Grants.{grant_of_kind_at, grants_of_kind}

-- the part that makes such an action
abbrev pub part_of : Action → Part
part_of (actions.Free core) = parts.Frees
part_of (actions.Unban core) = parts.Unbans
part_of (actions.Ban core thread started) = parts.Bans
part_of (actions.Cap task cap) = parts.Bandwidth
part_of (actions.Grant core thread class) = parts.Grants
part_of (actions.Revoke core (causes.Ban by)) = parts.Bans
part_of (actions.Revoke core causes.Bandwidth) = parts.Bandwidth
part_of (actions.Revoke core (causes.Preempt task)) = parts.Grants

-- the pass up to the end of its first, second, third, fourth part; and then the grants of the
-- latency-critical tasks
abbrev pub freed_of : Setting → List Action
freed_of s = followed [] (frees s)

abbrev pub unbanned_of : Setting → List Action
unbanned_of s = followed (freed_of s) (unbans s)

abbrev pub banned_of : Setting → List Action
banned_of s = followed (unbanned_of s) (bans s)

abbrev pub bounded_of : Setting → List Action
bounded_of s = followed (banned_of s) (bandwidth_part s)

abbrev pub granted_of : Setting → List Action
granted_of s = followed (bounded_of s) (grants_of_kind kinds.LatencyCritical s)

-- the turn's core, task or place is the table's
abbrev pub IsTurn : Table → Turn → Type 0
IsTurn table (Free core) = core < table.cores
IsTurn table (Unban core) = core < table.cores
IsTurn table (Ban core) = core < table.cores
IsTurn table Bandwidth = Unit {0}
IsTurn table (LatencyCritical task) = task < length table.tasks
IsTurn table (BestEffort task) = task < length table.tasks
IsTurn table (Placed place act) = (place < length table.tasks) × (act < table.cores)
IsTurn table End = Unit {0}

-- the first turn of each pass
abbrev pub first_turn : Turn
first_turn = Free 0

-- what comes after turn k of a part that has so many: its next turn upwards, and after its last one
-- what follows the part
abbrev pub next_in_part : ℕ → (ℕ → Turn) → ℕ → Turn → Turn
next_in_part many turn k following = if nat_lt (k + 1) many then turn (k + 1) else following

-- the turn that comes next: a turn of each core whether it becomes free, then one of each whether its
-- ban ends, one of each whether its sibling is banned, the turn of the bandwidth figure, a turn of each
-- task for the latency-critical ones, one of each for the best-effort ones, and the end, which stays;
-- a pass of this policy has no turns by place
abbrev pub next_turn : Table → Turn → Turn
next_turn table (Free core) = next_in_part table.cores Free core (Unban 0)
next_turn table (Unban core) = next_in_part table.cores Unban core (Ban 0)
next_turn table (Ban core) = next_in_part table.cores Ban core Bandwidth
next_turn table Bandwidth = LatencyCritical 0
next_turn table (LatencyCritical task) =
    next_in_part (length table.tasks) LatencyCritical task (BestEffort 0)
next_turn table (BestEffort task) = next_in_part (length table.tasks) BestEffort task End
next_turn table (Placed place act) = End
next_turn table End = End

-- the actions of the pass that come before a turn; at the end all of them
abbrev pub made_before : Setting → Turn → List Action
made_before s (Free core) = followed [] (λ acts. in_turn (free_at s) acts core)
made_before s (Unban core) = followed (freed_of s) (λ acts. in_turn (unban_at s) acts core)
made_before s (Ban core) = followed (unbanned_of s) (λ acts. in_turn (bans_at s) acts core)
made_before s Bandwidth = banned_of s
made_before s (LatencyCritical task) = followed (bounded_of s)
    (λ acts. in_turn (grant_of_kind_at kinds.LatencyCritical s) acts task)
made_before s (BestEffort task) = followed (granted_of s)
    (λ acts. in_turn (grant_of_kind_at kinds.BestEffort s) acts task)
made_before s (Placed place act) = pass_of s
made_before s End = pass_of s

-- the actions that a turn makes after those
abbrev pub made_in : Setting → List Action → Turn → List Action
made_in s acts (Free core) = free_at s acts core
made_in s acts (Unban core) = unban_at s acts core
made_in s acts (Ban core) = bans_at s acts core
made_in s acts Bandwidth = bandwidth_part s acts
made_in s acts (LatencyCritical task) = grant_of_kind_at kinds.LatencyCritical s acts task
made_in s acts (BestEffort task) = grant_of_kind_at kinds.BestEffort s acts task
made_in s acts (Placed place act) = []
made_in s acts End = []
