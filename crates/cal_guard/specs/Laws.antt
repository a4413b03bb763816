-- What every permitted history is safe from, at every place, in the words of cal_laws.
use Rattle.std.specs.Prelude.{◌≡◌, ◌≢◌, ℕ, ◌+◌, ◌<◌, ◌≤◌, true}
use Rattle.std.specs.Prelude.{false, List, length, take, Some, ◌⊎◌}
use Rattle.cal_machine.specs.Table.{Table}
use Rattle.cal_machine.specs.TableTasks.{owner_of, is_latency_critical}
use Rattle.cal_policy.specs.Pass.Bans.{NoPairBanned}
use Rattle.cal_policy.specs.declared.history.action.Action.{Action}
use Rattle.cal_policy.specs.declared.history.action.Action.TheVariants.{Free, Revoke, Grant}
use Rattle.cal_policy.specs.declared.history.action.Cause.{Cause}
use Rattle.cal_policy.specs.declared.history.entry.PassEntry.{PassEntry}
use Rattle.cal_policy.specs.declared.history.action_list.TheConstants.{MOST_ACTIONS}
use Rattle.cal_policy.specs.History.{actions_of, holder_of, sent_to, sends, is_banned}
use Rattle.cal_policy.specs.Board.Counts.{is_held, held_by, cap_of}
use Rattle.cal_policy.specs.Setting.{kept_now, has_room}
use Rattle.cal_laws.specs.Point.{Point, setting_at, made_at, actions_at, next_at}
use Rattle.cal_laws.specs.Acknowledged.{HasBeenLeft}
use Rattle.cal_laws.specs.Exclusion.{HaveOneCore, IsByLastRun, GoesToIdle}
use Rattle.cal_laws.specs.Limits.{IsWithinLimit, MayBookMore, LeavesGuarantee}
use Rattle.cal_laws.specs.Bans.{NoneHeld}
use Rattle.cal_laws.specs.Kept.{IsTrueRecord, IsOnItsCore}
use Rattle.cal_laws.specs.Runs.{RunsStand}
use Rattle.cal_laws.specs.Ends.{IsSafeBetween}
use Rattle.cal_guard.specs.Permitted.{IsPermittedHistory, core_revoked, RevokesFrom}
use Rattle.cal_guard.specs.Histories.{IsPermittedPoint}

abbrev pub ThreadsHaveOneCore : Type 0
ThreadsHaveOneCore = (here : Point) → IsPermittedPoint here →
    HaveOneCore here.table (actions_at here)

abbrev pub HoldersAreOfTheirLastRun : Type 0
HoldersAreOfTheirLastRun = (here : Point) → IsPermittedPoint here → (c : ℕ) → c < here.table.cores →
    IsByLastRun (actions_at here) c (holder_of (actions_at here) c)

abbrev pub RunsGoToIdleThreads : Type 0
RunsGoToIdleThreads = (here : Point) → IsPermittedPoint here → (core thread class : ℕ) →
    next_at here ≡ Some (Grant core thread class) →
    GoesToIdle here.table (actions_at here) core thread

abbrev pub FreedCoresWereLeft : Type 0
FreedCoresWereLeft = (here : Point) → IsPermittedPoint here → (core : ℕ) →
    next_at here ≡ Some (Free core) → HasBeenLeft (setting_at here) (made_at here) core

abbrev pub TasksKeepToLimits : Type 0
TasksKeepToLimits = (here : Point) → IsPermittedPoint here → (t : ℕ) → t < length here.table.tasks →
    IsWithinLimit here.table (actions_at here) t

abbrev pub GrantsKeepToCaps : Type 0
GrantsKeepToCaps = (here : Point) → IsPermittedPoint here → (core thread class : ℕ) →
    next_at here ≡ Some (Grant core thread class) →
    MayBookMore here.table (actions_at here) (owner_of here.table thread)

abbrev pub RevocationsLeaveGuarantees : Type 0
RevocationsLeaveGuarantees = (here : Point) → IsPermittedPoint here → (core : ℕ) (cause : Cause) →
    next_at here ≡ Some (Revoke core cause) →
    LeavesGuarantee here.table (actions_at here) core cause

abbrev pub NoBannedIsGranted : Type 0
NoBannedIsGranted = (here : Point) → IsPermittedPoint here → (core thread class : ℕ) →
    next_at here ≡ Some (Grant core thread class) → is_banned (actions_at here) core ≡ false

abbrev pub NoPairIsBanned : Type 0
NoPairIsBanned = (here : Point) → IsPermittedPoint here → NoPairBanned (actions_at here)

abbrev pub BannedAreEmptyAfterPasses : Type 0
BannedAreEmptyAfterPasses = (table : Table) (history : List PassEntry) →
    IsPermittedHistory table history → NoneHeld (actions_of history)

-- where a banned core is held the next action revokes it
pub record IsRevokedNext (here : Point) (core : ℕ) : Type 0 where
  pub action : Action
  pub next : next_at here ≡ Some action
  pub revoked : core_revoked action ≡ Some core

abbrev pub BannedAreEmptiedAtOnce : Type 0
BannedAreEmptiedAtOnce = (here : Point) → IsPermittedPoint here → (core : ℕ) →
    is_banned (actions_at here) core ≡ true → is_held (holder_of (actions_at here) core) ≡ true →
    IsRevokedNext here core

-- the next action revokes a core that the task holds
pub record IsLoweredNext (here : Point) (t : ℕ) : Type 0 where
  pub action : Action
  pub next : next_at here ≡ Some action
  pub revokes : RevokesFrom here.table (actions_at here) t action

abbrev pub TasksKeepToCaps : Type 0
TasksKeepToCaps = (here : Point) → IsPermittedPoint here → (t : ℕ) →
    is_latency_critical here.table t ≡ false →
    (held_by here.table (actions_at here) t ≤ cap_of here.table (actions_at here) t)
    ⊎ (IsLoweredNext here t)

abbrev pub CommandsGoWhereIsRoom : Type 0
CommandsGoWhereIsRoom = (here : Point) → IsPermittedPoint here → (action : Action) →
    next_at here ≡ Some action →
    (k : ℕ) → 0 < length (sends k (actions_at here) action) → has_room (setting_at here) k ≡ true

abbrev pub ThreadsAreSentOneCommand : Type 0
ThreadsAreSentOneCommand = (here : Point) → IsPermittedPoint here → (k : ℕ) →
    sent_to (actions_at here) k ≤ sent_to (actions_of (take here.pass here.history)) k + 1

abbrev pub PassesAreShort : Type 0
PassesAreShort = (here : Point) → IsPermittedPoint here → length here.entry.actions ≤ MOST_ACTIONS

abbrev pub KeptRecordsAreTrue : Type 0
KeptRecordsAreTrue = (here : Point) → IsPermittedPoint here → (k : ℕ) →
    IsTrueRecord here k (kept_now (setting_at here) k)

abbrev pub KeptThreadsAreOnCore : Type 0
KeptThreadsAreOnCore = (here : Point) → IsPermittedPoint here → (k : ℕ) →
    (kept_now (setting_at here) k).running ≢ 0 →
    IsOnItsCore here.table (actions_at here) k (kept_now (setting_at here) k)

abbrev pub RunsStandUntilLeft : Type 0
RunsStandUntilLeft = (here : Point) → IsPermittedPoint here →
    RunsStand here.table here.history (actions_at here)

abbrev pub PermittedIsSafeBetween : Type 0
PermittedIsSafeBetween = (table : Table) (history : List PassEntry) →
    IsPermittedHistory table history → IsSafeBetween table history (actions_of history)
