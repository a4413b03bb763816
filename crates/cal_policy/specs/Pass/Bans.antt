-- The second and third part of a pass: a core stays empty while a request on its sibling runs too
-- long. (After Caladan's controller of hyperthread siblings; the exact rule is Doranjei's own.)
use Rattle.std.specs.Prelude.{◌≡◌, ℕ, ◌-◌, ◌==◌, ◌&&◌, Bool, true, false, not}
use Rattle.std.specs.Prelude.{nat_lt, List, [], ◌∷◌, Option, Some, None, if◌then◌else◌}
use Rattle.cal_signal.specs.declared.record.Record.{Record}
use Rattle.cal_signal.specs.Records.{shows_on}
use Rattle.cal_machine.specs.TableTasks.{owner_of, is_latency_critical, request_of}
use Rattle.cal_machine.specs.Machine.{sibling_of}
use Rattle.cal_policy.specs.declared.history.action.Action.{Action}
use Rattle.cal_policy.specs.declared.history.action.Action.TheVariants.{Unban, Ban, Revoke}
use Rattle.cal_policy.specs.declared.history.action.Cause.TheVariants as causes
use Rattle.cal_policy.specs.declared.board.holders.Holder.{Holder}
use Rattle.cal_policy.specs.declared.board.holders.Holder.TheVariants as holders
use Rattle.cal_policy.specs.declared.board.bans.BannedFor.{BannedFor}
use Rattle.cal_policy.specs.History.Lists.{in_turn}
use Rattle.cal_policy.specs.History.{holder_of, ban_of, is_banned}
use Rattle.cal_policy.specs.Board.Counts.{is_held, is_over}
use Rattle.cal_policy.specs.Setting.{Setting, so_far, kept_now, has_room}

-- no core is banned while its sibling is: so it is after every orderly history
pub record NoPairBanned (x : List Action) : Type 0 where
  pub apart : (c : ℕ) → is_banned x c ≡ true → is_banned x (sibling_of c) ≡ false

-- a record still shows its thread on core c, at work at the request begun at `started`
abbrev pub still_shows : Record → ℕ → ℕ → Bool
still_shows rec c started = shows_on rec c && (rec.started == started)

-- a ban on core c ends, unless its thread's kept record still shows the sibling and the same start
abbrev pub unban_for : Setting → ℕ → Option BannedFor → List Action
unban_for s c None = []
unban_for s c (Some ban) = if still_shows (kept_now s ban.thread) (sibling_of c) ban.started then []
    else Unban c ∷ []

abbrev pub unban_at : Setting → List Action → ℕ → List Action
unban_at s acts c = unban_for s c (ban_of (so_far s acts) c)

-- each core upwards
abbrev pub unbans : Setting → List Action → List Action
unbans s acts = in_turn (unban_at s) acts s.table.cores

-- a record shows its thread on core c, at a request begun more than `limit` ticks ago
abbrev pub runs_too_long : ℕ → Record → ℕ → ℕ → Bool
runs_too_long now rec c limit =
    shows_on rec c && not (rec.started == 0) && nat_lt rec.started now
    && nat_lt limit (now - rec.started)

-- a core that may be emptied: free, being left, or held by a thread whose ring has room and whose
-- task is over
abbrev pub may_be_emptied : Setting → List Action → Holder → Bool
may_be_emptied s x holders.Free = true
may_be_emptied s x (holders.Leaving placement cause) = true
may_be_emptied s x (holders.Held placement) =
    has_room s placement.thread && is_over s.table x (owner_of s.table placement.thread)

-- the thread for which a core is held, where its request runs too long on core c and its task is
-- latency-critical
abbrev pub too_long_on : Setting → ℕ → Holder → Option ℕ
too_long_on s c holders.Free = None
too_long_on s c (holders.Leaving placement cause) = None
too_long_on s c (holders.Held placement) =
    if is_latency_critical s.table (owner_of s.table placement.thread)
    && runs_too_long s.input.now (kept_now s placement.thread) c
    (request_of s.table (owner_of s.table placement.thread))
    then Some placement.thread else None

-- neither core c nor its sibling is banned, and the sibling may be emptied
abbrev pub may_ban_beside : Setting → List Action → ℕ → Bool
may_ban_beside s x c = not (is_banned x c) && not (is_banned x (sibling_of c))
    && may_be_emptied s x (holder_of x (sibling_of c))

-- the thread for whose request on core c the sibling is to be banned after the actions x, where a
-- ban is due
abbrev pub ban_due : Setting → List Action → ℕ → Option ℕ
ban_due s x c = if may_ban_beside s x c then too_long_on s c (holder_of x c) else None

-- the ban, and where the banned core is held its revocation
abbrev pub ban_for : Setting → List Action → ℕ → Option ℕ → List Action
ban_for s x c None = []
ban_for s x c (Some thread) =
    Ban (sibling_of c) thread (kept_now s thread).started
    ∷ (if is_held (holder_of x (sibling_of c)) then Revoke (sibling_of c) (causes.Ban c) ∷ []
    else [])

abbrev pub bans_at : Setting → List Action → ℕ → List Action
bans_at s acts c = ban_for s (so_far s acts) c (ban_due s (so_far s acts) c)

-- each core upwards
abbrev pub bans : Setting → List Action → List Action
bans s acts = in_turn (bans_at s) acts s.table.cores
