-- Which core and which thread a task gets. (After Caladan's core allocator; the classes and the
-- order of choice are Doranjei's own.)
use Rattle.std.specs.Prelude.{◌≡◌, ◌≢◌, ◌↔◌, ℕ, ◌<◌, ◌≤◌, true, false, List, length, Some, ◌⊎◌}
use Rattle.cal_machine.specs.Machine.{sibling_of}
use Rattle.cal_machine.specs.Table.{Table}
use Rattle.cal_machine.specs.TableTasks.{owner_of, thread_of, limit_of}
use Rattle.cal_machine.specs.TableTasks.{guaranteed_of, is_latency_critical}
use Rattle.cal_policy.specs.declared.history.action.Action.{Action}
use Rattle.cal_policy.specs.declared.history.action.Action.TheVariants.{Revoke, Grant}
use Rattle.cal_policy.specs.declared.history.action.Cause.TheVariants as causes
use Rattle.cal_policy.specs.declared.history.core_class.CoreClass.{CoreClass}
use Rattle.cal_policy.specs.declared.history.core_class.CoreClass.TheVariants as classes
use Rattle.cal_policy.specs.declared.board.holders.Placement as placements
use Rattle.cal_policy.specs.declared.board.holders.Holder.TheVariants as holders
use Rattle.cal_policy.specs.History.{holder_of, last_thread, is_banned}
use Rattle.cal_policy.specs.History.CoreClasses.{class_number, is_idle}
use Rattle.cal_policy.specs.Board.Counts.{held_by, booked_by, cores_of_thread}
use Rattle.cal_policy.specs.Setting.{Setting, so_far, has_room}
use Rattle.cal_policy.specs.Pass.Grants.{thread_delay, is_congested, may_book, is_granted_in}
use Rattle.cal_policy.specs.Pass.Grants.{class_of}
use Rattle.cal_laws.specs.Point.{Point, IsPoint, setting_at, made_at, actions_at, next_at}

-- a thread that a core may be granted to: it holds and leaves none, and its ring has room
pub record IsFreeWithRoom (s : Setting) (x : List Action) (k : ℕ) : Type 0 where
  pub free : cores_of_thread s.table x k ≡ 0
  pub room : has_room s k ≡ true

-- of the threads of task t that are free with room this one has waited longest
pub record HasGreatestDelay (s : Setting) (x : List Action) (t thread : ℕ) : Type 0 where
  -- its number among those of the task
  pub number : ℕ
  pub own : number < limit_of s.table t
  pub numbered : thread ≡ thread_of s.table t number
  -- it is free, and its ring has room
  pub candidate : IsFreeWithRoom s x thread
  -- no other such thread of the task has a greater delay
  pub none_greater : (j : ℕ) → j < limit_of s.table t → IsFreeWithRoom s x (thread_of s.table t j) →
      thread_delay s (thread_of s.table t j) ≤ thread_delay s thread
  -- and none with as great a one has a lesser number
  pub none_lesser : (j : ℕ) → j < limit_of s.table t → IsFreeWithRoom s x (thread_of s.table t j) →
      thread_delay s (thread_of s.table t j) ≡ thread_delay s thread → number ≤ j

-- a core that nobody has and that is not banned
pub record IsIdle (x : List Action) (core : ℕ) : Type 0 where
  pub free : holder_of x core ≡ holders.Free
  pub not_banned : is_banned x core ≡ false

-- a thread of task t holds the core
pub record IsHeldBy (table : Table) (x : List Action) (t core : ℕ) : Type 0 where
  pub placement : placements.Placement
  pub held : holder_of x core ≡ holders.Held placement
  pub task : owner_of table placement.thread ≡ t

-- the last grant of the core went to a thread of task t
pub record WentLastTo (table : Table) (x : List Action) (t core : ℕ) : Type 0 where
  pub thread : ℕ
  pub last : last_thread x core ≡ Some thread
  pub task : owner_of table thread ≡ t

-- idle, beside a core that task t holds
pub record IsSibling (s : Setting) (x : List Action) (t : ℕ) (class : CoreClass)
    (core : ℕ) : Type 0 where
  pub is : class ≡ classes.Sibling
  pub idle : IsIdle x core
  pub beside : IsHeldBy s.table x t (sibling_of core)

-- idle, not beside one, last granted to task t
pub record IsRecent (s : Setting) (x : List Action) (t : ℕ) (class : CoreClass)
    (core : ℕ) : Type 0 where
  pub is : class ≡ classes.RecentlyUsed
  pub idle : IsIdle x core
  pub not_beside : ¬ IsHeldBy s.table x t (sibling_of core)
  pub last : WentLastTo s.table x t core

-- idle, and neither
pub record IsOther (s : Setting) (x : List Action) (t : ℕ) (class : CoreClass)
    (core : ℕ) : Type 0 where
  pub is : class ≡ classes.OtherIdle
  pub idle : IsIdle x core
  pub not_beside : ¬ IsHeldBy s.table x t (sibling_of core)
  pub not_last : ¬ WentLastTo s.table x t core

-- a core that may be preempted for task t
pub record MayBePreempted (s : Setting) (acts : List Action) (t core : ℕ) : Type 0 where
  -- the task is latency-critical
  pub critical : is_latency_critical s.table t ≡ true
  -- no core is being left for it
  pub none_leaves : (c : ℕ) (left : placements.Placement) → c < s.table.cores →
      holder_of (so_far s acts) c ≢ holders.Leaving left (causes.Preempt t)
  -- a thread holds the core
  pub placement : placements.Placement
  pub held : holder_of (so_far s acts) core ≡ holders.Held placement
  -- whose ring has room
  pub room : has_room s placement.thread ≡ true
  -- and the core was not granted in this pass
  pub not_granted : is_granted_in acts core ≡ false

-- another latency-critical task may be preempted for task t: it holds more than it is guaranteed,
-- and t has booked less than it is
pub record CriticalMayBePreempted (s : Setting) (x : List Action) (t other : ℕ) : Type 0 where
  pub critical : is_latency_critical s.table other ≡ true
  pub another : other ≢ t
  pub over : guaranteed_of s.table other < held_by s.table x other
  pub short : booked_by s.table x t < guaranteed_of s.table t

-- a core that may be preempted, of a best-effort task or of a latency-critical one that may be
pub record IsPreemptible (s : Setting) (acts : List Action) (t : ℕ) (class : CoreClass)
    (core : ℕ) : Type 0 where
  pub core_may : MayBePreempted s acts t core
  pub holder : ((class ≡ classes.BestEffortBurstable)
      × (is_latency_critical s.table (owner_of s.table core_may.placement.thread) ≡ false))
      ⊎ ((class ≡ classes.LatencyCriticalBurstable)
      × CriticalMayBePreempted s (so_far s acts) t
      (owner_of s.table core_may.placement.thread))

-- the core is of this class for task t
abbrev pub IsOfClass : Setting → List Action → ℕ → CoreClass → ℕ → Type 0
IsOfClass s acts t class core =
    IsSibling s (so_far s acts) t class core
    ⊎ (IsRecent s (so_far s acts) t class core
    ⊎ (IsOther s (so_far s acts) t class core ⊎ IsPreemptible s acts t class core))

-- what the pass takes for the class of a core is the class that it is of
abbrev pub ClassesAreTold : Type 0
ClassesAreTold = (s : Setting) (acts : List Action) (t : ℕ) (class : CoreClass) (core : ℕ) →
    (class_of s acts t core ≡ Some class) ↔ IsOfClass s acts t class core

-- a pair of class and core that is possible for task t
pub record IsPossible (s : Setting) (acts : List Action) (t : ℕ) (class : CoreClass)
    (core : ℕ) : Type 0 where
  pub own : core < s.table.cores
  pub applies : IsOfClass s acts t class core

-- one pair of class and core is less than another: by the number of its class, and within a class
-- by its core
abbrev pub IsLessPair : CoreClass → ℕ → CoreClass → ℕ → Type 0
IsLessPair class core other_class other_core =
    (class_number class < class_number other_class)
    ⊎ ((class ≡ other_class) × (core < other_core))

-- a pair is possible for task t, and no possible pair is less
pub record IsLeastPossible (s : Setting) (acts : List Action) (t : ℕ) (class : CoreClass)
    (core : ℕ) : Type 0 where
  pub possible : IsPossible s acts t class core
  pub none_less : (other_class : CoreClass) (other_core : ℕ) →
      IsPossible s acts t other_class other_core →
      ¬ IsLessPair other_class other_core class core

-- a grant of the class of this number
pub record IsBestGrant (s : Setting) (acts : List Action) (core thread number : ℕ) : Type 0 where
  -- the task of the thread
  pub task : ℕ
  pub own : task < length s.table.tasks
  pub owner : owner_of s.table thread ≡ task
  -- it is congested
  pub congested : is_congested s task ≡ true
  -- it may book one more core
  pub room : may_book s (so_far s acts) task ≡ true
  -- the class of the core, in which cores are granted
  pub class : CoreClass
  pub numbered : number ≡ class_number class
  pub idle : is_idle class ≡ true
  -- of all pairs of class and core that are possible for the task this is the least
  pub least : IsLeastPossible s acts task class core
  -- of its threads this one has waited longest
  pub longest : HasGreatestDelay s (so_far s acts) task thread

-- each grant is the best that its task can have
abbrev pub GrantsAreBest : Type 0
GrantsAreBest = (here : Point) → IsPoint here → (core thread class : ℕ) →
    next_at here ≡ Some (Grant core thread class) →
    IsBestGrant (setting_at here) (made_at here) core thread class

-- some thread of task t is free with room
pub record HasThread (s : Setting) (x : List Action) (t : ℕ) : Type 0 where
  pub number : ℕ
  pub own : number < limit_of s.table t
  pub candidate : IsFreeWithRoom s x (thread_of s.table t number)

-- where a core is preempted for a task, the task has a thread to run on it
abbrev pub PreemptionsHaveThread : Type 0
PreemptionsHaveThread = (here : Point) → IsPoint here → (core t : ℕ) →
    next_at here ≡ Some (Revoke core (causes.Preempt t)) →
    HasThread (setting_at here) (actions_at here) t
