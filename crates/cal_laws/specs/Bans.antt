-- Banned cores, and what each ban stands for. (After Caladan's controller of hyperthread siblings;
-- the exact rule is Doranjei's own.)
use Rattle.std.specs.Prelude.{◌≡◌, ◌≢◌, ℕ, ◌+◌, ◌-◌, ◌<◌, true, false}
use Rattle.std.specs.Prelude.{List, [], ◌∷◌, ◌++◌, Option, Some, None}
use Rattle.cal_machine.specs.Machine.{sibling_of}
use Rattle.cal_machine.specs.Table.{Table, IsTable}
use Rattle.cal_machine.specs.TableTasks.{owner_of, guaranteed_of, request_of, is_latency_critical}
use Rattle.cal_policy.specs.declared.history.action.Action.{Action}
use Rattle.cal_policy.specs.declared.history.action.Action.TheVariants.{Unban, Ban, Revoke, Grant}
use Rattle.cal_policy.specs.declared.history.action.Cause.TheVariants as causes
use Rattle.cal_policy.specs.declared.history.entry.PassEntry.{PassEntry}
use Rattle.cal_policy.specs.declared.board.bans.BannedFor.{BannedFor}
use Rattle.cal_policy.specs.declared.board.holders.Placement as placements
use Rattle.cal_policy.specs.declared.board.holders.Holder.{Holder}
use Rattle.cal_policy.specs.declared.board.holders.Holder.TheVariants as holders
use Rattle.cal_policy.specs.History.{actions_of, holder_of, ban_of, is_banned}
use Rattle.cal_policy.specs.Board.Counts.{is_held, held_by}
use Rattle.cal_policy.specs.Pass.{IsLegal}
use Rattle.cal_policy.specs.Setting.{Setting, kept_now, has_room}
use Rattle.cal_laws.specs.Point.{Point, IsPoint, setting_at, made_at, actions_at, next_at}

-- the ring of a thread has room, and its task holds more cores than it is guaranteed
pub record IsOverWithRoom (s : Setting) (x : List Action) (thread : ℕ) : Type 0 where
  pub room : has_room s thread ≡ true
  pub over : guaranteed_of s.table (owner_of s.table thread)
      < held_by s.table x (owner_of s.table thread)

-- a core that may be kept empty: free, being left, or held by a thread that can be told to leave,
-- of a task that is over
abbrev pub MayBeEmpty : Setting → List Action → Holder → Type 0
MayBeEmpty s x holders.Free = Unit {0}
MayBeEmpty s x (holders.Held placement) = IsOverWithRoom s x placement.thread
MayBeEmpty s x (holders.Leaving placement cause) = Unit {0}

-- a request runs too long on core c
pub record RunsTooLong (s : Setting) (x : List Action) (c thread : ℕ) : Type 0 where
  -- the machine has the core
  pub own : c < s.table.cores
  -- this thread holds it
  pub placement : placements.Placement
  pub held : holder_of x c ≡ holders.Held placement
  pub runs : placement.thread ≡ thread
  -- its task is latency-critical
  pub critical : is_latency_critical s.table (owner_of s.table thread) ≡ true
  -- its kept record shows it on this core
  pub shown : (kept_now s thread).running ≡ c + 1
  -- at work at a request
  pub at_work : (kept_now s thread).started ≢ 0
  -- which was begun before now
  pub begun : (kept_now s thread).started < s.input.now
  -- longer ago than its task allows
  pub too_long : request_of s.table (owner_of s.table thread)
      < s.input.now - (kept_now s thread).started

-- a ban of the sibling of core c is due for a thread: its request runs too long there, neither core
-- is banned, and the sibling may be kept empty
pub record IsDue (s : Setting) (x : List Action) (c thread : ℕ) : Type 0 where
  pub request : RunsTooLong s x c thread
  pub not_banned : is_banned x c ≡ false
  pub beside_not_banned : is_banned x (sibling_of c) ≡ false
  pub may_be_empty : MayBeEmpty s x (holder_of x (sibling_of c))

-- where a core is granted it is not banned
abbrev pub NoBannedIsGranted : Type 0
NoBannedIsGranted = (here : Point) → IsPoint here → (core thread class : ℕ) →
    next_at here ≡ Some (Grant core thread class) → is_banned (actions_at here) core ≡ false

-- a ban of this core, which stands beside core `by`, is due for the thread, at the request that its
-- kept record shows
pub record IsDueBan (s : Setting) (x : List Action) (core thread started : ℕ) : Type 0 where
  pub by : ℕ
  pub beside : core ≡ sibling_of by
  pub request : started ≡ (kept_now s thread).started
  pub due : IsDue s x by thread

-- where a core is banned, the ban is due
abbrev pub BansAreDue : Type 0
BansAreDue = (here : Point) → IsPoint here → (core thread started : ℕ) →
    next_at here ≡ Some (Ban core thread started) →
    IsDueBan (setting_at here) (actions_at here) core thread started

-- no banned core is held
pub record NoneHeld (x : List Action) : Type 0 where
  pub empty : (core : ℕ) → is_banned x core ≡ true → is_held (holder_of x core) ≡ false

-- after every legal history, and so after each of its passes, no banned core is held
abbrev pub BannedAreEmptyAfterPasses : Type 0
BannedAreEmptyAfterPasses = (table : Table) (history : List PassEntry) → IsTable table →
    IsLegal table history → NoneHeld (actions_of history)

-- the last of these actions is a ban of the core, and the next action its revocation
pub record IsJustBanned (acts : List Action) (core : ℕ) (next : Option Action) : Type 0 where
  pub earlier : List Action
  pub thread : ℕ
  pub started : ℕ
  pub by : ℕ
  pub banned : acts ≡ earlier ++ Ban core thread started ∷ []
  pub revoked : next ≡ Some (Revoke core (causes.Ban by))

-- inside a pass a banned core is held only between its ban and its revocation, which follows at
-- once
abbrev pub BannedAreEmptiedAtOnce : Type 0
BannedAreEmptiedAtOnce = (here : Point) → IsPoint here → (core : ℕ) →
    is_banned (actions_at here) core ≡ true → is_held (holder_of (actions_at here) core) ≡ true →
    IsJustBanned (made_at here) core (next_at here)

-- the kept record of the ban's thread shows it on the sibling, at the request for which the core is
-- banned
pub record IsShown (s : Setting) (core : ℕ) (ban : BannedFor) : Type 0 where
  pub running : (kept_now s ban.thread).running ≡ sibling_of core + 1
  pub request : (kept_now s ban.thread).started ≡ ban.started

-- the core was banned, and the kept record of the ban's thread does not show it on the sibling at
-- the request for which the core was banned
pub record HasEnded (s : Setting) (x : List Action) (core : ℕ) : Type 0 where
  pub own : core < s.table.cores
  pub ban : BannedFor
  pub stood : ban_of x core ≡ Some ban
  pub not_shown : ¬ IsShown s core ban

-- wherever a ban ends, its thread is no longer shown beside the core
abbrev pub BansEndUnshown : Type 0
BansEndUnshown = (here : Point) → IsPoint here → (core : ℕ) → next_at here ≡ Some (Unban core) →
    HasEnded (setting_at here) (actions_at here) core

-- at the end of every pass each ban of a core of the machine is still shown
abbrev pub BansAreShownAfterPasses : Type 0
BansAreShownAfterPasses = (here : Point) → IsPoint here → next_at here ≡ None →
    (core : ℕ) (ban : BannedFor) → core < here.table.cores →
    ban_of (actions_at here) core ≡ Some ban → IsShown (setting_at here) core ban
