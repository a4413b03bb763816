-- Why each core is taken away under this policy.
use Rattle.std.specs.Prelude.{◌≡◌, ℕ, ◌<◌, true, List, [], ◌∷◌, ◌++◌, length, Some, None}
use Rattle.cal_machine.specs.Machine.{sibling_of}
use Rattle.cal_machine.specs.TableTasks.{is_latency_critical}
use Rattle.cal_policy.specs.declared.history.action.Action.{Action}
use Rattle.cal_policy.specs.declared.history.action.Action.TheVariants.{Ban}
use Rattle.cal_policy.specs.declared.history.action.Cause.{Cause}
use Rattle.cal_policy.specs.declared.history.action.Cause.TheVariants as causes
use Rattle.cal_policy.specs.declared.history.core_class.CoreClass.{CoreClass}
use Rattle.cal_policy.specs.History.{holder_of}
use Rattle.cal_policy.specs.Board.Counts.{is_held}
use Rattle.cal_policy.specs.Pass.Made.{IsRevokedForBandwidth}
use Rattle.cal_policy.specs.Assured.Hyperthreads.{due_for}
use Rattle.cal_policy.specs.Assured.Short.{waits}
use Rattle.cal_policy.specs.Assured.Taking.{open_choice, held_choice, may_preempt}
use Rattle.cal_policy.specs.Setting.{Setting, so_far, kept_now}

-- the core is revoked because it was just banned
pub record IsForBan (s : Setting) (acts : List Action) (core by : ℕ) : Type 0 where
  -- the actions before the ban, and the thread that it is for
  pub earlier : List Action
  pub thread : ℕ
  -- the action just before is the ban of this core
  pub just_before : acts ≡ earlier ++ Ban core thread (kept_now s thread).started ∷ []
  -- it is the sibling of core `by`, which the machine has
  pub beside : core ≡ sibling_of by
  pub own : by < s.table.cores
  -- for which the ban was due at its own place
  pub due : due_for s (so_far s earlier) by ≡ Some thread
  -- where the core was held
  pub held : is_held (holder_of (so_far s earlier) core) ≡ true

-- the core is revoked for task t
pub record IsForTask (s : Setting) (acts : List Action) (core t : ℕ) : Type 0 where
  -- the table has the task
  pub own : t < length s.table.tasks
  -- it is latency-critical
  pub critical : is_latency_critical s.table t ≡ true
  -- it waits
  pub waiting : waits s (so_far s acts) t ≡ true
  -- it may take no open core
  pub none_open : open_choice s (so_far s acts) t ≡ None
  -- more of its threads press than cores are coming to it and helpers on their way; and it has not
  -- acted in this pass, or fewer are coming than it lacks
  pub may : may_preempt s acts t ≡ true
  -- of the cores that may be taken for it this is the one of the least class, the lowest of those
  pub class : CoreClass
  pub least : held_choice s acts t ≡ Some (record { rank = class; number = core })

-- a revocation of this core, after the actions acts of the pass, is for what its cause says
abbrev pub HasCause : Setting → List Action → ℕ → Cause → Type 0
HasCause s acts core (causes.Ban by) = IsForBan s acts core by
HasCause s acts core causes.Bandwidth = IsRevokedForBandwidth s acts core
HasCause s acts core (causes.Preempt task) = IsForTask s acts core task
