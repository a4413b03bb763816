-- What a walk answers at a turn: each number is the one that the policy's rules speak of.
use Rattle.std.specs.Prelude.{◌≡◌, ℕ, ◌==◌, Bool, true, false, not, List, Option, Some, None}
use Rattle.std.specs.Prelude.{IsSome}
use Rattle.cal_machine.specs.Table.{Table}
use Rattle.cal_machine.specs.Machine.{sibling_of}
use Rattle.cal_machine.specs.TableTasks.{is_latency_critical, owner_of}
use Rattle.cal_policy.specs.declared.history.action.Action.{Action}
use Rattle.cal_policy.specs.declared.board.holders.Holder.{Holder}
use Rattle.cal_policy.specs.declared.board.holders.Holder.TheVariants as holders
use Rattle.cal_policy.specs.declared.explain.bans.BanReason.{BanReason}
use Rattle.cal_policy.specs.declared.explain.bans.BanReason.TheVariants as reasons
use Rattle.cal_policy.specs.declared.explain.cores.CoreState.{CoreState}
use Rattle.cal_policy.specs.declared.explain.tasks.TaskState.{TaskState}
use Rattle.cal_policy.specs.declared.explain.tasks.ThreadState.{ThreadState}
use Rattle.cal_policy.specs.Board.{kept_holder}
use Rattle.cal_policy.specs.Board.Counts.{is_held, held_by, booked_by, cap_of, cores_of_thread}
use Rattle.cal_policy.specs.History as history
use Rattle.cal_policy.specs.History.{holder_of, is_banned}
use Rattle.cal_policy.specs.Pass.Bandwidth as bandwidth
use Rattle.cal_policy.specs.Pass.Bans.{ban_due, too_long_on, may_be_emptied}
use Rattle.cal_policy.specs.Pass.Frees.{shows_left}
use Rattle.cal_policy.specs.Pass.Grants as grants
use Rattle.cal_policy.specs.Pass.Grants.{none_leaves_for, is_granted_in}
use Rattle.cal_policy.specs.Setting as rules
use Rattle.cal_policy.specs.Setting.{Setting, so_far, kept_now}

-- a task after the actions x
pub record IsTaskState (s : Setting) (x : List Action) (t : ℕ) (state : TaskState) : Type 0 where
  pub delay : state.delay ≡ grants.task_delay s t
  pub is_congested : state.is_congested ≡ grants.is_congested s t
  pub held : state.held ≡ held_by s.table x t
  pub booked : state.booked ≡ booked_by s.table x t
  pub cap : state.cap ≡ cap_of s.table x t
  pub may_book : state.may_book ≡ grants.may_book s x t
  pub awaits : state.awaits ≡ not (none_leaves_for s x t)

-- a thread after the actions x; it may be granted a core where it has none and its ring has room
pub record IsThreadState (s : Setting) (x : List Action) (k : ℕ)
    (state : ThreadState) : Type 0 where
  pub delay : state.delay ≡ grants.thread_delay s k
  pub has_core : state.has_core ≡ not (cores_of_thread s.table x k == 0)
  pub has_room : state.has_room ≡ rules.has_room s k
  pub new_misses : state.new_misses ≡ bandwidth.new_misses s k
  pub kept : state.kept ≡ kept_now s k

-- a core after the actions acts of the pass
pub record IsCoreState (s : Setting) (acts : List Action) (c : ℕ) (state : CoreState) : Type 0 where
  pub holder : state.holder ≡ kept_holder (holder_of (so_far s acts) c)
  pub ban : state.ban ≡ history.ban_of (so_far s acts) c
  pub is_granted_now : state.is_granted_now ≡ is_granted_in acts c
  pub is_left : state.is_left ≡ shows_left (kept_now s) (holder_of (so_far s acts) c)

-- a latency-critical task's thread holds the core
abbrev pub is_held_critical : Table → Holder → Bool
is_held_critical table holders.Free = false
is_held_critical table (holders.Held placement) =
    is_latency_critical table (owner_of table placement.thread)
is_held_critical table (holders.Leaving placement cause) = false

-- a best-effort task's thread holds the core
abbrev pub is_held_best_effort : Table → Holder → Bool
is_held_best_effort table holders.Free = false
is_held_best_effort table (holders.Held placement) =
    not (is_latency_critical table (owner_of table placement.thread))
is_held_best_effort table (holders.Leaving placement cause) = false

-- a latency-critical task's thread holds core c, and its kept record shows no request on it that runs
-- too long
pub record HasNoLongRequest (s : Setting) (x : List Action) (c : ℕ) : Type 0 where
  pub held : is_held_critical s.table (holder_of x c) ≡ true
  pub none : too_long_on s c (holder_of x c) ≡ None

-- a request on core c runs too long, and the core is banned
pub record IsItselfBanned (s : Setting) (x : List Action) (c : ℕ) : Type 0 where
  pub long : IsSome (too_long_on s c (holder_of x c))
  pub banned : is_banned x c ≡ true

-- a request on core c, which is not banned, runs too long, and its sibling is banned already
pub record IsSiblingBanned (s : Setting) (x : List Action) (c : ℕ) : Type 0 where
  pub long : IsSome (too_long_on s c (holder_of x c))
  pub unbanned : is_banned x c ≡ false
  pub banned : is_banned x (sibling_of c) ≡ true

-- a request on core c runs too long, neither core is banned, and the sibling may not be emptied
pub record IsSiblingStaying (s : Setting) (x : List Action) (c : ℕ) : Type 0 where
  pub long : IsSome (too_long_on s c (holder_of x c))
  pub unbanned : is_banned x c ≡ false
  pub beside : is_banned x (sibling_of c) ≡ false
  pub stays : may_be_emptied s x (holder_of x (sibling_of c)) ≡ false

-- the thread for whose request a ban is due by this answer
abbrev pub due_by : BanReason → Option ℕ
due_by (reasons.Due thread) = Some thread
due_by reasons.NotHeld = None
due_by reasons.BestEffort = None
due_by reasons.NotTooLong = None
due_by reasons.Banned = None
due_by reasons.SiblingBanned = None
due_by reasons.SiblingStays = None

-- what holds of core c by this answer
abbrev pub HoldsBy : Setting → List Action → ℕ → BanReason → Type 0
HoldsBy s x c (reasons.Due thread) = too_long_on s c (holder_of x c) ≡ Some thread
HoldsBy s x c reasons.NotHeld = is_held (holder_of x c) ≡ false
HoldsBy s x c reasons.BestEffort = is_held_best_effort s.table (holder_of x c) ≡ true
HoldsBy s x c reasons.NotTooLong = HasNoLongRequest s x c
HoldsBy s x c reasons.Banned = IsItselfBanned s x c
HoldsBy s x c reasons.SiblingBanned = IsSiblingBanned s x c
HoldsBy s x c reasons.SiblingStays = IsSiblingStaying s x c

-- the answer says for which thread a ban of the sibling of core c is due, or by what it is not: of
-- several reasons the first, so that no other answer is right
pub record IsBanReason (s : Setting) (x : List Action) (c : ℕ) (reason : BanReason) : Type 0 where
  pub due : ban_due s x c ≡ due_by reason
  pub fact : HoldsBy s x c reason
