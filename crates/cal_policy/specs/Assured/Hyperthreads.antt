-- The second and third part of a pass of this policy: a ban gives way to a short task that waits.
use Rattle.std.specs.Prelude.{ℕ, ◌&&◌, not, List, [], ◌∷◌, Option, Some, None, if◌then◌else◌}
use Rattle.cal_machine.specs.Machine.{sibling_of}
use Rattle.cal_policy.specs.declared.history.action.Action.{Action}
use Rattle.cal_policy.specs.declared.history.action.Action.TheVariants.{Unban}
use Rattle.cal_policy.specs.declared.board.bans.BannedFor.{BannedFor}
use Rattle.cal_policy.specs.History.Lists.{in_turn}
use Rattle.cal_policy.specs.History.{holder_of, ban_of}
use Rattle.cal_policy.specs.Board.Counts.{is_free}
use Rattle.cal_policy.specs.Pass.Bans.{still_shows, ban_due, ban_for}
use Rattle.cal_policy.specs.Assured.Short.{are_lacked, are_wanted}
use Rattle.cal_policy.specs.Setting.{Setting, so_far, kept_now}

-- a ban on core c ends, unless its thread's kept record still shows the sibling and the same start;
-- it ends too where open cores are wanted
abbrev pub unban_for : Setting → List Action → ℕ → Option BannedFor → List Action
unban_for s x c None = []
unban_for s x c (Some ban) =
    if still_shows (kept_now s ban.thread) (sibling_of c) ban.started && not (are_wanted s x)
    then [] else Unban c ∷ []

abbrev pub unban_at : Setting → List Action → ℕ → List Action
unban_at s acts c = unban_for s (so_far s acts) c (ban_of (so_far s acts) c)

-- each core upwards
abbrev pub unbans : Setting → List Action → List Action
unbans s acts = in_turn (unban_at s) acts s.table.cores

-- the thread for whose request on core c the sibling is to be banned, where a ban is due; none of a
-- free core is where open cores are lacked
abbrev pub due_for : Setting → List Action → ℕ → Option ℕ
due_for s x c =
    if is_free (holder_of x (sibling_of c)) && are_lacked s x then None else ban_due s x c

abbrev pub bans_at : Setting → List Action → ℕ → List Action
bans_at s acts c = ban_for s (so_far s acts) c (due_for s (so_far s acts) c)

-- each core upwards
abbrev pub bans : Setting → List Action → List Action
bans s acts = in_turn (bans_at s) acts s.table.cores
