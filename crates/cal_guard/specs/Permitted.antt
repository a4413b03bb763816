-- Which actions a pass may make, whatever policy chose them, each by what stands at its own place.
use Rattle.std.specs.Prelude.{◌≡◌, ℕ, ◌<◌, ◌≤◌, true, false, List, length}
use Rattle.std.specs.Prelude.{take, Option, Some, None, slice_get}
use Rattle.cal_machine.specs.Table.{Table}
use Rattle.cal_machine.specs.TableTasks.{owner_of, guaranteed_of, is_latency_critical}
use Rattle.cal_policy.specs.declared.history.action.Action.{Action}
use Rattle.cal_policy.specs.declared.history.action.Action.TheVariants.{Free, Unban, Ban}
use Rattle.cal_policy.specs.declared.history.action.Action.TheVariants.{Revoke, Cap, Grant}
use Rattle.cal_policy.specs.declared.history.entry.PassEntry.{PassEntry}
use Rattle.cal_policy.specs.declared.history.action_list.TheConstants.{MOST_ACTIONS}
use Rattle.cal_policy.specs.declared.board.holders.Placement as placements
use Rattle.cal_policy.specs.declared.board.holders.Holder.TheVariants as holders
use Rattle.cal_policy.specs.History.{actions_of, holder_of, sent_to, is_banned}
use Rattle.cal_policy.specs.Board.Counts.{is_held, is_held_for, held_by, cap_of}
use Rattle.cal_policy.specs.Setting.{Setting, setting_of, so_far, kept_now, has_room}
use Rattle.cal_policy.specs.Pass.Frees.{shows_left}
use Rattle.cal_policy.specs.Judgement.Judging.{IsInput}
use Rattle.cal_policy.specs.Judgement.Orderly.{fits_state}
use Rattle.cal_laws.specs.Bans.{NoneHeld}
use Rattle.cal_laws.specs.Limits.{MayBookMore}

-- the ring of the thread has room, and the thread was sent no command in this pass
pub record MayBeSent (s : Setting) (acts : List Action) (thread : ℕ) : Type 0 where
  pub room : has_room s thread ≡ true
  pub unsent : sent_to (so_far s acts) thread ≡ sent_to (actions_of s.history) thread

-- the core is held, its thread may be sent a command, and its task holds more than it is guaranteed
pub record MayBeRevoked (s : Setting) (acts : List Action) (core : ℕ) : Type 0 where
  pub loser : placements.Placement
  pub held : holder_of (so_far s acts) core ≡ holders.Held loser
  pub over : guaranteed_of s.table (owner_of s.table loser.thread) < held_by s.table (so_far s acts)
      (owner_of s.table loser.thread)
  pub send : MayBeSent s acts loser.thread

-- the core is not banned, the thread's task may book one more, and the thread may be sent a command
pub record MayBeGranted (s : Setting) (acts : List Action) (core thread : ℕ) : Type 0 where
  pub unbanned : is_banned (so_far s acts) core ≡ false
  pub books : MayBookMore s.table (so_far s acts) (owner_of s.table thread)
  pub send : MayBeSent s acts thread

-- what each kind of action asks, beside fitting the state
abbrev pub MayBeMade : Setting → List Action → Action → Type 0
MayBeMade s acts (Free core) = shows_left (kept_now s) (holder_of (so_far s acts) core) ≡ true
MayBeMade s acts (Revoke core cause) = MayBeRevoked s acts core
MayBeMade s acts (Grant core thread class) = MayBeGranted s acts core thread
MayBeMade s acts (Unban core) = Unit {0}
MayBeMade s acts (Ban core thread started) = Unit {0}
MayBeMade s acts (Cap task cap) = Unit {0}

-- the core that an action revokes
abbrev pub core_revoked : Action → Option ℕ
core_revoked (Revoke core cause) = Some core
core_revoked (Free core) = None
core_revoked (Unban core) = None
core_revoked (Ban core thread started) = None
core_revoked (Cap task cap) = None
core_revoked (Grant core thread class) = None

-- while a banned core is held the action revokes it
abbrev pub EmptiesBanned : List Action → Action → Type 0
EmptiesBanned x a = (core : ℕ) → is_banned x core ≡ true → is_held (holder_of x core) ≡ true →
    core_revoked a ≡ Some core

-- the action revokes a core that task t holds
pub record RevokesFrom (table : Table) (x : List Action) (t : ℕ) (a : Action) : Type 0 where
  pub core : ℕ
  pub revoked : core_revoked a ≡ Some core
  pub own : is_held_for table t (holder_of x core) ≡ true

-- while a best-effort task holds more cores than its cap the action revokes one of them
abbrev pub LowersCapped : Table → List Action → Action → Type 0
LowersCapped table x a = (t : ℕ) → is_latency_critical table t ≡ false →
    cap_of table x t < held_by table x t → RevokesFrom table x t a

-- no best-effort task holds more cores than its cap
pub record NoneOverCap (table : Table) (x : List Action) : Type 0 where
  pub within : (t : ℕ) → is_latency_critical table t ≡ false → held_by table x t ≤ cap_of table x t

-- the action is permitted after the actions acts of the pass: it fits the state, it may be made,
-- and it mends what a ban or a cap left undone
pub record IsPermitted (s : Setting) (acts : List Action) (a : Action) : Type 0 where
  pub fits : fits_state s.table (so_far s acts) a ≡ true
  pub may : MayBeMade s acts a
  pub empties : EmptiesBanned (so_far s acts) a
  pub lowers : LowersCapped s.table (so_far s acts) a

-- after these actions of the pass no ban and no cap is left undone
pub record LeavesNothing (s : Setting) (acts : List Action) : Type 0 where
  pub emptied : NoneHeld (so_far s acts)
  pub lowered : NoneOverCap s.table (so_far s acts)

-- the actions of a pass are permitted, each at its place; they are not many; and when all are made
-- no ban and no cap is left undone
pub record ArePermitted (s : Setting) (actions : List Action) : Type 0 where
  pub each : (i : ℕ) (a : Action) → slice_get actions i ≡ Some a → IsPermitted s (take i actions) a
  pub short : length actions ≤ MOST_ACTIONS
  pub settled : LeavesNothing s actions

-- an entry is a permitted pass after these, whoever chose its actions
pub record IsPermittedPass (table : Table) (before : List PassEntry)
    (entry : PassEntry) : Type 0 where
  pub input : IsInput table before entry.input
  pub actions : ArePermitted (setting_of table before entry) entry.actions

-- a permitted history: each entry is such a pass after those before it
pub record IsPermittedHistory (table : Table) (history : List PassEntry) : Type 0 where
  pub passes : (p : ℕ) (entry : PassEntry) → slice_get history p ≡ Some entry →
      IsPermittedPass table (take p history) entry
