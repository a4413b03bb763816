-- The actions that a pass can make, each with what stands at its own place; and the causes of
-- revocations.
use Rattle.std.specs.Prelude.{◌≡◌, ℕ, ◌+◌, ◌-◌, ◌<◌, true, false, nat_lt}
use Rattle.std.specs.Prelude.{List, [], ◌∷◌, ◌++◌, length, Some, ◌⊎◌}
use Rattle.cal_machine.specs.Machine.{sibling_of}
use Rattle.cal_machine.specs.TableTasks.{thread_of}
use Rattle.cal_policy.specs.declared.history.action.Action.{Action}
use Rattle.cal_policy.specs.declared.history.action.Action.TheVariants.{Free, Unban, Ban}
use Rattle.cal_policy.specs.declared.history.action.Action.TheVariants.{Revoke, Cap, Grant}
use Rattle.cal_policy.specs.declared.history.action.Cause.TheVariants as causes
use Rattle.cal_policy.specs.declared.board.bans.BannedFor.{BannedFor}
use Rattle.cal_policy.specs.declared.pass.choice.Candidate.{Candidate}
use Rattle.cal_policy.specs.declared.history.core_class.CoreClass.{CoreClass}
use Rattle.cal_policy.specs.History.CoreClasses.{class_number, is_idle}
use Rattle.cal_policy.specs.History.{holder_of, ban_of}
use Rattle.cal_policy.specs.Board.Counts.{is_held, held_by, cap_of}
use Rattle.cal_policy.specs.Pass.Choice.{lowest_below}
use Rattle.cal_policy.specs.Setting.{Setting, so_far, kept_now}
use Rattle.cal_policy.specs.Pass.Frees.{shows_left}
use Rattle.cal_policy.specs.Pass.Bans.{still_shows, ban_due}
use Rattle.cal_policy.specs.Pass.Bandwidth.{victim_of, core_to_lose, is_capped}
use Rattle.cal_policy.specs.Pass.Grants.{is_congested, may_book, thread_choice, choice_of}

-- each member of xs has P, told what came before it, which begins with `before`
abbrev pub EachAfter : {X : Type 0} → (List X → X → Type 0) → List X → List X → Type 0
EachAfter P before [] = Unit {0}
EachAfter P before (x ∷ xs) = P before x × EachAfter P (before ++ x ∷ []) xs

-- the core's thread showed that it left
pub record IsFreed (s : Setting) (acts : List Action) (c : ℕ) : Type 0 where
  pub core : c < s.table.cores
  pub left : shows_left (kept_now s) (holder_of (so_far s acts) c) ≡ true

-- the core's ban is no longer shown
pub record IsUnbanned (s : Setting) (acts : List Action) (c : ℕ) (ban : BannedFor) : Type 0 where
  pub core : c < s.table.cores
  pub banned : ban_of (so_far s acts) c ≡ Some ban
  pub over : still_shows (kept_now s ban.thread) (sibling_of c) ban.started ≡ false

-- a ban of the sibling was due for core c and this thread
pub record IsBanDue (s : Setting) (acts : List Action) (c thread : ℕ) : Type 0 where
  pub core : c < s.table.cores
  pub due : ban_due s (so_far s acts) c ≡ Some thread

-- the bandwidth is over the limit, the task is the victim, and this is the core that it loses
pub record IsCut (s : Setting) (acts : List Action) (victim : Candidate ℕ) (core : ℕ) : Type 0 where
  pub over : nat_lt s.table.bandwidth_limit s.input.bandwidth ≡ true
  pub greatest : victim_of s (so_far s acts) ≡ Some victim
  pub highest : core_to_lose s (so_far s acts) victim.number ≡ Some core

-- the bandwidth is not over the limit, and the task is the lowest of those that are capped
pub record IsRaised (s : Setting) (acts : List Action) (t : ℕ) : Type 0 where
  pub within : nat_lt s.table.bandwidth_limit s.input.bandwidth ≡ false
  pub lowest : lowest_below (is_capped s (so_far s acts)) (length s.table.tasks) ≡ Some t

-- the task is congested, may book one more core, and these are the thread and the core that were
-- chosen for it
pub record IsChosen (s : Setting) (acts : List Action) (t : ℕ)
    (thread : Candidate ℕ) (core : Candidate CoreClass) : Type 0 where
  pub task : t < length s.table.tasks
  pub congested : is_congested s t ≡ true
  pub room : may_book s (so_far s acts) t ≡ true
  pub longest : thread_choice s (so_far s acts) t ≡ Some thread
  pub least : choice_of s acts t ≡ Some core

-- a ban of this core, which stands beside core `by`, was due for the thread
pub record IsBanned (s : Setting) (acts : List Action) (core thread started : ℕ) : Type 0 where
  pub by : ℕ
  pub beside : core ≡ sibling_of by
  pub start : started ≡ (kept_now s thread).started
  pub due : IsBanDue s acts by thread

-- the core is revoked because it was just banned
pub record IsRevokedForBan (s : Setting) (acts : List Action) (core by : ℕ) : Type 0 where
  -- the actions before the ban, and the thread that it is for
  pub earlier : List Action
  pub thread : ℕ
  -- the action just before is the ban of this core
  pub just_before : acts ≡ earlier ++ Ban core thread (kept_now s thread).started ∷ []
  -- it is the sibling of core `by`
  pub beside : core ≡ sibling_of by
  -- for which the ban was due at its own place
  pub due : IsBanDue s earlier by thread
  -- where the core was held
  pub held : is_held (holder_of (so_far s earlier) core) ≡ true

-- the action just before is the cap of the victim, which loses this core
pub record IsRevokedForBandwidth (s : Setting) (acts : List Action) (core : ℕ) : Type 0 where
  pub earlier : List Action
  pub victim : Candidate ℕ
  pub just_before : acts ≡ earlier
      ++ Cap victim.number (held_by s.table (so_far s earlier) victim.number - 1) ∷ []
  pub cut : IsCut s earlier victim core

-- the core was chosen for task t in a class that is revoked: a core that is not idle
pub record IsPreempted (s : Setting) (acts : List Action) (core t : ℕ) : Type 0 where
  pub thread : Candidate ℕ
  pub choice : Candidate CoreClass
  pub number : core ≡ choice.number
  pub class : is_idle choice.rank ≡ false
  pub chosen : IsChosen s acts t thread choice

-- the cap is the victim's, one below what it holds
pub record IsCapCut (s : Setting) (acts : List Action) (t cap : ℕ) : Type 0 where
  pub victim : Candidate ℕ
  pub core : ℕ
  pub number : t ≡ victim.number
  pub below : cap ≡ held_by s.table (so_far s acts) victim.number - 1
  pub cut : IsCut s acts victim core

-- the cap is one above that of the task that rises
pub record IsCapRise (s : Setting) (acts : List Action) (t cap : ℕ) : Type 0 where
  pub above : cap ≡ cap_of s.table (so_far s acts) t + 1
  pub raised : IsRaised s acts t

-- the core was chosen for a task in a class that is granted
pub record IsGranted (s : Setting) (acts : List Action) (core thread class : ℕ) : Type 0 where
  -- the task, and the thread and the core that were chosen for it
  pub task : ℕ
  pub chosen_thread : Candidate ℕ
  pub choice : Candidate CoreClass
  -- the core is the one that was chosen
  pub core_chosen : core ≡ choice.number
  -- so is the thread, which is counted among its task's
  pub thread_chosen : thread ≡ thread_of s.table task chosen_thread.number
  -- and the class
  pub class_chosen : class ≡ class_number choice.rank
  -- the core is idle
  pub granted : is_idle choice.rank ≡ true
  -- both were chosen as the policy chooses
  pub chosen : IsChosen s acts task chosen_thread choice

-- the action is one that a pass makes at this place, after the actions acts of it
abbrev pub IsMade : Setting → List Action → Action → Type 0
IsMade s acts (Free core) = IsFreed s acts core
IsMade s acts (Unban core) = (ban : BannedFor) × IsUnbanned s acts core ban
IsMade s acts (Ban core thread started) = IsBanned s acts core thread started
IsMade s acts (Revoke core (causes.Ban by)) = IsRevokedForBan s acts core by
IsMade s acts (Revoke core causes.Bandwidth) = IsRevokedForBandwidth s acts core
IsMade s acts (Revoke core (causes.Preempt task)) = IsPreempted s acts core task
IsMade s acts (Cap task cap) = IsCapCut s acts task cap ⊎ IsCapRise s acts task cap
IsMade s acts (Grant core thread class) = IsGranted s acts core thread class
