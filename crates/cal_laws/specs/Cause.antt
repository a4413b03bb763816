-- Why each core was taken away. (The causes are own: a revocation without one would take a core
-- from a task for nothing.)
use Rattle.std.specs.Prelude.{◌≡◌, ℕ, ◌-◌, ◌<◌, ◌≤◌, true, false, List, [], ◌∷◌, ◌++◌, length, Some}
use Rattle.cal_machine.specs.Machine.{sibling_of}
use Rattle.cal_machine.specs.TableTasks.{owner_of, limit_of, guaranteed_of, is_latency_critical}
use Rattle.cal_policy.specs.declared.history.action.Action.{Action}
use Rattle.cal_policy.specs.declared.history.action.Action.TheVariants.{Ban, Cap, Revoke}
use Rattle.cal_policy.specs.declared.history.action.Cause.{Cause}
use Rattle.cal_policy.specs.declared.history.core_class.CoreClass.{CoreClass}
use Rattle.cal_policy.specs.declared.history.action.Cause.TheVariants as causes
use Rattle.cal_policy.specs.declared.board.holders.Placement as placements
use Rattle.cal_policy.specs.declared.board.holders.Holder.TheVariants as holders
use Rattle.cal_policy.specs.History.{holder_of}
use Rattle.cal_policy.specs.Board.Counts.{held_by, booked_by}
use Rattle.cal_policy.specs.Setting.{Setting, so_far, kept_now, has_room}
use Rattle.cal_policy.specs.Pass.Bandwidth.{task_misses}
use Rattle.cal_policy.specs.Pass.Grants.{is_congested}
use Rattle.cal_laws.specs.Point.{Point, IsPoint, setting_at, made_at, next_at}
use Rattle.cal_laws.specs.Bans.{IsDue, IsOverWithRoom}
use Rattle.cal_laws.specs.Choice.{IsLeastPossible, IsPreemptible}

-- core c can be taken from task t: a thread of t holds it, and the ring of that thread has room
pub record CanLose (s : Setting) (x : List Action) (t c : ℕ) : Type 0 where
  pub own : c < s.table.cores
  pub placement : placements.Placement
  pub held : holder_of x c ≡ holders.Held placement
  pub task : owner_of s.table placement.thread ≡ t
  pub room : has_room s placement.thread ≡ true

-- a task that bandwidth may take a core from: a best-effort one that can lose one
pub record IsCandidate (s : Setting) (x : List Action) (t : ℕ) : Type 0 where
  pub own : t < length s.table.tasks
  pub best_effort : is_latency_critical s.table t ≡ false
  pub core : ℕ
  pub loses : CanLose s x t core

-- the task that loses: a candidate above its guarantee; no candidate has had more misses since the
-- pass before, none with as many has a lesser number
pub record HasMisses (s : Setting) (x : List Action) (t : ℕ) : Type 0 where
  pub candidate : IsCandidate s x t
  pub over : guaranteed_of s.table t < held_by s.table x t
  pub none_greater : (other : ℕ) → IsCandidate s x other → task_misses s other ≤ task_misses s t
  pub none_lesser : (other : ℕ) → IsCandidate s x other → task_misses s other ≡ task_misses s t →
      t ≤ other

-- the core is revoked for bandwidth
pub record IsForBandwidth (s : Setting) (acts : List Action) (core : ℕ) : Type 0 where
  -- the figure is over the limit
  pub over_limit : s.table.bandwidth_limit < s.input.bandwidth
  -- the task that loses the core, and the actions before its cap
  pub victim : ℕ
  pub earlier : List Action
  -- the action just before has capped it one below what it holds
  pub capped : acts ≡ earlier ++ Cap victim (held_by s.table (so_far s acts) victim - 1) ∷ []
  -- no task that could lose a core has had more misses
  pub misses : HasMisses s (so_far s acts) victim
  -- the core is one that it can lose
  pub loses : CanLose s (so_far s acts) victim core
  -- and the highest of them
  pub none_higher : (c : ℕ) → CanLose s (so_far s acts) victim c → c ≤ core

-- the core is revoked for task t
pub record IsForTask (s : Setting) (acts : List Action) (core t : ℕ) : Type 0 where
  -- the table has the task
  pub own : t < length s.table.tasks
  -- it is congested
  pub congested : is_congested s t ≡ true
  -- it books less than its limit
  pub below_limit : booked_by s.table (so_far s acts) t < limit_of s.table t
  -- the class of the core
  pub class : CoreClass
  -- of all pairs of class and core that are possible for the task this is the least
  pub least : IsLeastPossible s acts t class core
  -- the core may be preempted for it, and no core is being left for it
  pub preemptible : IsPreemptible s acts t class core

-- the core is revoked for a ban beside core `by`
pub record IsForBan (s : Setting) (acts : List Action) (core by : ℕ) : Type 0 where
  -- the actions before the ban, and the thread that it is for
  pub earlier : List Action
  pub thread : ℕ
  -- the action just before is the ban of this core
  pub just_before : acts ≡ earlier ++ Ban core thread (kept_now s thread).started ∷ []
  -- which is the sibling of core `by`
  pub beside : core ≡ sibling_of by
  -- for which it was due
  pub due : IsDue s (so_far s earlier) by thread
  -- a thread holds the core
  pub placement : placements.Placement
  pub held : holder_of (so_far s acts) core ≡ holders.Held placement
  -- whose task is over, and whose ring has room
  pub over : IsOverWithRoom s (so_far s acts) placement.thread

-- a revocation of this core, after the actions acts of the pass, is for what its cause says
abbrev pub HasCause : Setting → List Action → ℕ → Cause → Type 0
HasCause s acts core (causes.Ban by) = IsForBan s acts core by
HasCause s acts core causes.Bandwidth = IsForBandwidth s acts core
HasCause s acts core (causes.Preempt task) = IsForTask s acts core task

-- each revocation is for what its cause says
abbrev pub RevocationsHaveCause : Type 0
RevocationsHaveCause = (here : Point) → IsPoint here → (core : ℕ) (cause : Cause) →
    next_at here ≡ Some (Revoke core cause) →
    HasCause (setting_at here) (made_at here) core cause
