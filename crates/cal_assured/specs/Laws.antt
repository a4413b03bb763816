-- Laws of one pass of this policy, each at its own place.
use Rattle.std.specs.Prelude.{◌≡◌, ◌≢◌, ℕ, ◌<◌, ◌≤◌, ◌⊎◌, ◌&&◌, Bool, true, false, List, length, ◌++◌}
use Rattle.std.specs.Prelude.{Some, None, slice_get}
use Rattle.cal_machine.specs.Table.{Table, IsTable}
use Rattle.cal_machine.specs.TableTasks.{owner_of, is_latency_critical}
use Rattle.cal_policy.specs.declared.history.action.Action.{Action}
use Rattle.cal_policy.specs.declared.history.action.Action.TheVariants.{Ban, Revoke, Grant}
use Rattle.cal_policy.specs.declared.history.action.Cause.{Cause}
use Rattle.cal_policy.specs.declared.history.action.Cause.TheVariants as causes
use Rattle.cal_policy.specs.declared.board.holders.Placement.{Placement}
use Rattle.cal_policy.specs.declared.board.holders.Holder.TheVariants.{Held}
use Rattle.cal_policy.specs.History.{holder_of, is_banned}
use Rattle.cal_policy.specs.Board.Counts.{is_free, held_by}
use Rattle.cal_policy.specs.Assured.Cause.{HasCause}
use Rattle.cal_policy.specs.Assured.InFlight.{pressing, coming, new_helpers}
use Rattle.cal_policy.specs.Assured.Owed.{owed_to, owed_below, is_task}
use Rattle.cal_policy.specs.Assured.Short.{is_short, lacks, needs, lacking, open_cores, waits}
use Rattle.cal_policy.specs.Assured.Short.{some_waits_short, waits_short, is_open}
use Rattle.cal_policy.specs.Assured.Order.{is_later, place_of}
use Rattle.cal_policy.specs.Assured.Taking.{open_choice}
use Rattle.cal_policy.specs.Assured.Grants.{grants_of_first, turn_in_place}
use Rattle.cal_policy.specs.Assured.Pass.{unbanned_of, bounded_of, ComesTo}
use Rattle.cal_policy.specs.Pass.Choice.{count_below}
use Rattle.cal_policy.specs.Pass.{followed}
use Rattle.cal_policy.specs.Setting.{Setting, so_far}

-- task u does not wait; or task t is short, and u is not, or as many cores below this one are owed to
-- u as it could be granted
abbrev pub MayTakeWhatIsOwed : Setting → List Action → ℕ → ℕ → ℕ → Type 0
MayTakeWhatIsOwed s x t u core = (waits s x u ≡ false)
    ⊎ ((is_short s.table x t ≡ true)
    × ((is_short s.table x u ≡ false) ⊎ (needs s x u ≤ owed_below x u core)))

-- a core that is owed to a task is granted to another only so
abbrev pub OwedCoresAreKept : Type 0
OwedCoresAreKept = (s : Setting) (acts : List Action) (core thread class u : ℕ) →
    ComesTo s acts (Grant core thread class) → owed_to (so_far s acts) core ≡ Some u →
    owner_of s.table thread ≢ u →
    MayTakeWhatIsOwed s (so_far s acts) (owner_of s.table thread) u core

-- core c is open, and owed to task t
abbrev pub is_open_for : ℕ → List Action → ℕ → Bool
is_open_for t x c = is_open x c && is_task t (owed_to x c)

-- how many such cores there are
abbrev pub owed_open : Table → ℕ → List Action → ℕ
owed_open table t x = count_below (is_open_for t x) table.cores

-- the turn of task t after the actions acts of the pass
abbrev pub after_turn : Setting → List Action → ℕ → List Action
after_turn s acts t = so_far s (acts ++ turn_in_place s acts (Some t))

-- where a task is short and waits at the end of its turn, no open core is owed to it
abbrev pub OwedCoresAreTaken : Type 0
OwedCoresAreTaken = (s : Setting) (acts : List Action) (t c : ℕ) → c < s.table.cores →
    waits_short s (after_turn s acts t) t ≡ true → owed_to (after_turn s acts t) c ≡ Some t →
    is_open (after_turn s acts t) c ≡ false

-- nor is one where the task is short when its turn begins, was granted no core in the pass before it,
-- and has no more open cores owed to it than it needs
abbrev pub KeptCoresAreTaken : Type 0
KeptCoresAreTaken = (s : Setting) (acts : List Action) (t c : ℕ) → IsTable s.table →
    c < s.table.cores → is_short s.table (so_far s acts) t ≡ true →
    new_helpers s (so_far s acts) t ≡ 0 →
    owed_open s.table t (so_far s acts) ≤ needs s (so_far s acts) t →
    owed_to (after_turn s acts t) c ≡ Some t → is_open (after_turn s acts t) c ≡ false

-- a core is revoked for a task only where more of its threads are late, and not in flight, than cores
-- are coming to it
abbrev pub NoCoreIsRevokedTwice : Type 0
NoCoreIsRevokedTwice = (s : Setting) (acts : List Action) (core t : ℕ) →
    ComesTo s acts (Revoke core (causes.Preempt t)) →
    coming s (so_far s acts) t < pressing s (so_far s acts) t

-- a core of another latency-critical task is revoked for a task only where fewer cores are coming to
-- it than it lacks
abbrev pub NoMoreIsTakenThanIsLacked : Type 0
NoMoreIsTakenThanIsLacked = (s : Setting) (acts : List Action) (core t : ℕ) (loser : Placement) →
    ComesTo s acts (Revoke core (causes.Preempt t)) →
    holder_of (so_far s acts) core ≡ Held loser →
    is_latency_critical s.table (owner_of s.table loser.thread) ≡ true →
    coming s (so_far s acts) t < lacks s.table (so_far s acts) t

-- where a short task waits, a free core is banned only if more cores are open than are lacking
abbrev pub BansLeaveWhatIsLacked : Type 0
BansLeaveWhatIsLacked = (s : Setting) (acts : List Action) (core thread started : ℕ) →
    ComesTo s acts (Ban core thread started) → is_free (holder_of (so_far s acts) core) ≡ true →
    some_waits_short s (so_far s acts) ≡ true →
    lacking s (so_far s acts) < open_cores s.table (so_far s acts)

-- no free core of the machine is banned
abbrev pub NoneFreeBanned : Table → List Action → Type 0
NoneFreeBanned table x = (c : ℕ) → c < table.cores → is_free (holder_of x c) ≡ true →
    is_banned x c ≡ false

-- and where one waits after the second part, as many cores are open as are lacking, or no free core
-- is banned
abbrev pub BansEndForWhatIsLacked : Type 0
BansEndForWhatIsLacked = (s : Setting) → some_waits_short s (so_far s (unbanned_of s)) ≡ true →
    (lacking s (so_far s (unbanned_of s)) ≤ open_cores s.table (so_far s (unbanned_of s)))
    ⊎ NoneFreeBanned s.table (so_far s (unbanned_of s))

-- of two latency-critical tasks, neither short where the grants begin, u is later than t
pub record IsLaterOf (s : Setting) (u t : ℕ) : Type 0 where
  pub own : u < length s.table.tasks
  pub critical : is_latency_critical s.table u ≡ true
  pub other_critical : is_latency_critical s.table t ≡ true
  pub not_short : is_short s.table (so_far s (bounded_of s)) u ≡ false
  pub other_not_short : is_short s.table (so_far s (bounded_of s)) t ≡ false
  pub later : is_later s u t ≡ true

-- among these actions is no grant to a thread of task u
abbrev pub NoneGrantedTo : Table → List Action → ℕ → Type 0
NoneGrantedTo table acts u = (i core thread class : ℕ) →
    slice_get acts i ≡ Some (Grant core thread class) → owner_of table thread ≢ u

-- the actions of the pass before the turn of task u
abbrev pub made_before_turn : Setting → ℕ → List Action
made_before_turn s u =
    followed (bounded_of s) (grants_of_first (place_of s (so_far s (bounded_of s)) u) s)

-- where the less late one is granted a free core, and the later one was granted none before, then at
-- its turn the later one did not wait, or might take no open core
abbrev pub TheLaterComesFirst : Type 0
TheLaterComesFirst = (s : Setting) (acts : List Action) (core thread class u : ℕ) →
    ComesTo s acts (Grant core thread class) → IsLaterOf s u (owner_of s.table thread) →
    NoneGrantedTo s.table acts u →
    (waits s (so_far s (made_before_turn s u)) u ≡ false)
    ⊎ (open_choice s (so_far s (made_before_turn s u)) u ≡ None)

-- of two best-effort tasks u held fewer cores than t where the grants began
pub record HoldsFewerThan (s : Setting) (u t : ℕ) : Type 0 where
  pub own : u < length s.table.tasks
  pub burstable : is_latency_critical s.table u ≡ false
  pub other_burstable : is_latency_critical s.table t ≡ false
  pub fewer : held_by s.table (so_far s (bounded_of s)) u < held_by s.table (so_far s (bounded_of s)) t

-- where t is granted a free core, and u was granted none before, then at its turn u did not wait, or
-- might take no open core
abbrev pub TheFewestHeldComesFirst : Type 0
TheFewestHeldComesFirst = (s : Setting) (acts : List Action) (core thread class u : ℕ) →
    ComesTo s acts (Grant core thread class) → HoldsFewerThan s u (owner_of s.table thread) →
    NoneGrantedTo s.table acts u →
    (waits s (so_far s (made_before_turn s u)) u ≡ false)
    ⊎ (open_choice s (so_far s (made_before_turn s u)) u ≡ None)

-- each revocation is for what its cause says
abbrev pub RevocationsHaveCause : Type 0
RevocationsHaveCause = (s : Setting) (acts : List Action) (core : ℕ) (cause : Cause) →
    ComesTo s acts (Revoke core cause) → HasCause s acts core cause
