-- No task has more than it may, and none is preempted below its guarantee.
use Rattle.std.specs.Prelude.{◌≡◌, ℕ, ◌+◌, ◌<◌, ◌≤◌, ◌⊎◌, true, false}
use Rattle.std.specs.Prelude.{List, [], ◌∷◌, ◌++◌, Some}
use Rattle.cal_machine.specs.Table.{Table}
use Rattle.cal_machine.specs.TableTasks.{owner_of, limit_of, guaranteed_of, is_latency_critical}
use Rattle.cal_policy.specs.declared.history.action.Action.{Action}
use Rattle.cal_policy.specs.declared.history.action.Action.TheVariants.{Revoke, Cap, Grant}
use Rattle.cal_policy.specs.declared.history.action.Cause.{Cause}
use Rattle.cal_policy.specs.declared.history.action.Cause.TheVariants as causes
use Rattle.cal_policy.specs.declared.board.holders.Placement as placements
use Rattle.cal_policy.specs.declared.board.holders.Holder.TheVariants.{Held}
use Rattle.cal_policy.specs.History.{holder_of}
use Rattle.cal_policy.specs.Board.Counts.{is_held_for, held_by, booked_by, cap_of}
use Rattle.cal_laws.specs.Point.{Point, IsPoint, made_at, actions_at, next_at}

-- a task holds no more cores than it books, and books no more than its limit
pub record IsWithinLimit (table : Table) (x : List Action) (t : ℕ) : Type 0 where
  pub held : held_by table x t ≤ booked_by table x t
  pub booked : booked_by table x t ≤ limit_of table t

-- a task may be granted one core more: it has booked less than its limit and, if it is best-effort,
-- less than its cap
pub record MayBookMore (table : Table) (x : List Action) (t : ℕ) : Type 0 where
  pub limit : booked_by table x t < limit_of table t
  pub cap : is_latency_critical table t ≡ false → booked_by table x t < cap_of table x t

-- wherever a core is granted, its thread's task might be granted one more
abbrev pub GrantsKeepToCaps : Type 0
GrantsKeepToCaps = (here : Point) → IsPoint here → (core thread class : ℕ) →
    next_at here ≡ Some (Grant core thread class) →
    MayBookMore here.table (actions_at here) (owner_of here.table thread)

-- the task was cut by the action just before, and the next action revokes a core that it holds;
-- until then it holds at most one core more than its cap
pub record IsBeingCut (here : Point) (t : ℕ) : Type 0 where
  pub earlier : List Action
  pub cap : ℕ
  pub just_before : made_at here ≡ earlier ++ Cap t cap ∷ []
  pub core : ℕ
  pub next : next_at here ≡ Some (Revoke core causes.Bandwidth)
  pub own : is_held_for here.table t (holder_of (actions_at here) core) ≡ true
  pub held : held_by here.table (actions_at here) t ≤ cap_of here.table (actions_at here) t + 1

-- at every point a best-effort task holds no more than its cap, but between a cut of it and the
-- revocation that follows at once
abbrev pub TasksKeepToCaps : Type 0
TasksKeepToCaps = (here : Point) → IsPoint here → (t : ℕ) →
    is_latency_critical here.table t ≡ false →
    (held_by here.table (actions_at here) t ≤ cap_of here.table (actions_at here) t)
    ⊎ (IsBeingCut here t)

-- the core is held, by a task that holds more than it is guaranteed, and that holds no less than
-- its guarantee once the core is revoked
pub record LeavesGuarantee (table : Table) (x : List Action) (core : ℕ)
    (cause : Cause) : Type 0 where
  pub loser : placements.Placement
  pub held : holder_of x core ≡ Held loser
  pub over : guaranteed_of table (owner_of table loser.thread)
      < held_by table x (owner_of table loser.thread)
  pub after : guaranteed_of table (owner_of table loser.thread)
      ≤ held_by table (x ++ Revoke core cause ∷ []) (owner_of table loser.thread)

-- wherever a core is revoked, for whatever cause, its task keeps what it is guaranteed
abbrev pub RevocationsLeaveGuarantees : Type 0
RevocationsLeaveGuarantees = (here : Point) → IsPoint here → (core : ℕ) (cause : Cause) →
    next_at here ≡ Some (Revoke core cause) →
    LeavesGuarantee here.table (actions_at here) core cause
