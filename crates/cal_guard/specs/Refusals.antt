-- What is wrong with an action at its place: the conditions that it is permitted by, each with a
-- name, in the order in which they are told.
use Rattle.std.specs.Prelude.{◌≡◌, ℕ, ◌+◌, ◌<◌, ◌≤◌, ◌==◌, ◌&&◌, ◌||◌, ◌++◌}
use Rattle.std.specs.Prelude.{Bool, false, not, nat_lt, List, length, take}
use Rattle.std.specs.Prelude.{Option, Some, None, slice_get, if◌then◌else◌}
use Rattle.std.specs.Option.{option_or, option_map}
use Rattle.cal_machine.specs.Table.{Table}
use Rattle.cal_machine.specs.TableTasks.{owner_of, limit_of, is_latency_critical}
use Rattle.cal_policy.specs.declared.history.action.Action.{Action}
use Rattle.cal_policy.specs.declared.history.action.Action.TheVariants.{Free, Unban, Ban}
use Rattle.cal_policy.specs.declared.history.action.Action.TheVariants.{Revoke, Cap, Grant}
use Rattle.cal_policy.specs.declared.history.action_list.TheConstants.{MOST_ACTIONS}
use Rattle.cal_policy.specs.declared.board.holders.Holder.{Holder}
use Rattle.cal_policy.specs.declared.board.holders.Holder.TheVariants as holders
use Rattle.cal_policy.specs.History.{actions_of, holder_of, sent_to, is_banned}
use Rattle.cal_policy.specs.Pass.Choice.{lowest_below}
use Rattle.cal_policy.specs.Board.Counts.{is_held, is_held_for, is_over, held_by, booked_by, cap_of}
use Rattle.cal_policy.specs.Setting.{Setting, so_far, kept_now, has_room}
use Rattle.cal_policy.specs.Pass.Frees.{shows_left}
use Rattle.cal_policy.specs.Judgement.Orderly.{fits_state}
use Rattle.cal_guard.specs.declared.refusal.Why.{Why}
use Rattle.cal_guard.specs.declared.refusal.Why.TheVariants.{TooMany, DoesNotFit, NotLeft, Banned}
use Rattle.cal_guard.specs.declared.refusal.Why.TheVariants.{AtLimit, AtCap, AtGuarantee, NoRoom}
use Rattle.cal_guard.specs.declared.refusal.Why.TheVariants.{SecondCommand, BannedHeld, OverCap}
use Rattle.cal_guard.specs.declared.refusal.Refused.{Refused}
use Rattle.cal_guard.specs.Permitted.{core_revoked, IsPermitted, LeavesNothing}

-- this is wrong, unless the condition holds
abbrev pub unless : Bool → Why → Option Why
unless holds why = if holds then None else Some why

-- thread k was sent a command in this pass
abbrev pub was_sent : Setting → List Action → ℕ → Bool
was_sent s acts k = nat_lt (sent_to (actions_of s.history) k) (sent_to (so_far s acts) k)

abbrev pub wrong_to_send : Setting → List Action → ℕ → Option Why
wrong_to_send s acts k = option_or (unless (has_room s k) NoRoom)
    (unless (not (was_sent s acts k)) SecondCommand)

-- of a core that is held; any other does not fit
abbrev pub wrong_to_revoke : Setting → List Action → Holder → Option Why
wrong_to_revoke s acts holders.Free = Some DoesNotFit
wrong_to_revoke s acts (holders.Held placement) =
    option_or (unless (is_over s.table (so_far s acts)
    (owner_of s.table placement.thread)) AtGuarantee) (wrong_to_send s acts placement.thread)
wrong_to_revoke s acts (holders.Leaving placement cause) = Some DoesNotFit

abbrev pub wrong_to_book : Table → List Action → ℕ → Option Why
wrong_to_book table x t =
    option_or (unless (nat_lt (booked_by table x t) (limit_of table t)) AtLimit)
    (unless (is_latency_critical table t || nat_lt (booked_by table x t) (cap_of table x t)) AtCap)

abbrev pub wrong_to_grant : Setting → List Action → ℕ → ℕ → Option Why
wrong_to_grant s acts core thread =
    option_or (unless (not (is_banned (so_far s acts) core)) Banned)
    (option_or (wrong_to_book s.table (so_far s acts) (owner_of s.table thread))
    (wrong_to_send s acts thread))

-- by the kind of the action, beside fitting the state
abbrev pub wrong_to_make : Setting → List Action → Action → Option Why
wrong_to_make s acts (Free core) =
    unless (shows_left (kept_now s) (holder_of (so_far s acts) core)) NotLeft
wrong_to_make s acts (Revoke core cause) = wrong_to_revoke s acts (holder_of (so_far s acts) core)
wrong_to_make s acts (Grant core thread class) = wrong_to_grant s acts core thread
wrong_to_make s acts (Unban core) = None
wrong_to_make s acts (Ban core thread started) = None
wrong_to_make s acts (Cap task cap) = None

-- a core is revoked, and it is c
abbrev pub is_core : ℕ → Option ℕ → Bool
is_core c None = false
is_core c (Some core) = core == c

-- core c is banned and held, and is not the one that is revoked
abbrev pub is_left_held : List Action → Option ℕ → ℕ → Bool
is_left_held x revoked c = is_banned x c && is_held (holder_of x c) && not (is_core c revoked)

-- a core is revoked, and task t holds it
abbrev pub is_from : Table → List Action → ℕ → Option ℕ → Bool
is_from table x t None = false
is_from table x t (Some core) = is_held_for table t (holder_of x core)

-- best-effort task t holds more than its cap, and the core that is revoked is not its own
abbrev pub is_left_over : Table → List Action → Option ℕ → ℕ → Bool
is_left_over table x revoked t =
    not (is_latency_critical table t) && nat_lt (cap_of table x t)
    (held_by table x t) && not (is_from table x t revoked)

-- what a ban or a cap left undone, and is not done where this core is revoked
abbrev pub left_undone : Table → List Action → Option ℕ → Option Why
left_undone table x revoked =
    option_or (option_map (λ core. BannedHeld core)
    (lowest_below (is_left_held x revoked) table.cores))
    (option_map (λ task. OverCap task)
    (lowest_below (is_left_over table x revoked) (length table.tasks)))

-- what is wrong with an action after the actions acts of the pass
abbrev pub wrong_with : Setting → List Action → Action → Option Why
wrong_with s acts a =
    option_or (unless (nat_lt (length acts) MOST_ACTIONS) TooMany)
    (option_or (unless (fits_state s.table (so_far s acts) a) DoesNotFit)
    (option_or (wrong_to_make s acts a) (left_undone s.table (so_far s acts) (core_revoked a))))

-- what is wrong with the next action, or with the end of the pass
abbrev pub wrong_next : Setting → List Action → Option Action → Option Why
wrong_next s acts (Some a) = wrong_with s acts a
wrong_next s acts None = left_undone s.table (so_far s acts) None

-- these actions are permitted, each at its place, after the actions acts of the pass; with them
-- they are not many; and the pass may end after them
pub record MayEndWith (s : Setting) (acts actions : List Action) : Type 0 where
  pub each : (i : ℕ) (a : Action) → slice_get actions i ≡ Some a →
      IsPermitted s (acts ++ take i actions) a
  pub short : length acts + length actions ≤ MOST_ACTIONS
  pub settled : LeavesNothing s (acts ++ actions)

-- those before its place are permitted, and this is what is wrong there
pub record IsFirstWrong (s : Setting) (acts actions : List Action)
    (refused : Refused) : Type 0 where
  pub within : refused.place ≤ length actions
  pub before : (i : ℕ) (a : Action) → i < refused.place → slice_get actions i ≡ Some a →
      IsPermitted s (acts ++ take i actions) a
  pub why : wrong_next s (acts ++ take refused.place actions)
      (slice_get actions refused.place) ≡ Some refused.why
