-- The bans of a history: which core stayed empty for which thread, from which pass to which.
-- Doranjei's own.
use Rattle.std.specs.Prelude.{◌≡◌, ◌<◌, ℕ, ◌==◌, List, Option, Some, None, option_map}
use Rattle.std.specs.Prelude.{slice_index_or, if◌then◌else◌}
use Rattle.cal_policy.specs.History.Lists.{last_of}
use Rattle.cal_policy.specs.History.{ban_of}
use Rattle.cal_policy.specs.declared.board.bans.BannedFor.{BannedFor}
use Rattle.cal_policy.specs.declared.history.action.Action.{Action}
use Rattle.cal_policy.specs.declared.history.action.Action.TheVariants.{Free, Unban, Ban, Revoke}
use Rattle.cal_policy.specs.declared.history.action.Action.TheVariants.{Cap, Grant}
use Rattle.cal_measure.specs.Spans.{Move, actions_in}
use Rattle.cal_measure.specs.declared.spans.bans.BanSpan.{BanSpan}
use Rattle.cal_measure.specs.declared.spans.bans.BanTracker.{BanTracker}

-- the span that a Ban begins
abbrev pub banned : ℕ → ℕ → ℕ → ℕ → BanSpan
banned p core thread started = record {
  core = core;
  thread = thread;
  started = started;
  from = p;
  to = None;
}

-- a ban that ends
abbrev pub lifted : ℕ → BanSpan → BanSpan
lifted p ban = record ban { to = Some p }

-- an action as a Ban of core c: the span that it begins
abbrev pub banned_by : ℕ → ℕ → Action → Option BanSpan
banned_by c p (Ban core thread started) =
    if core == c then Some (banned p core thread started) else None
banned_by c p (Unban core) = None
banned_by c p (Free core) = None
banned_by c p (Revoke core cause) = None
banned_by c p (Cap task cap) = None
banned_by c p (Grant core thread class) = None

-- the span that the last Ban of core c began
abbrev pub last_banned : List Move → ℕ → Option BanSpan
last_banned moves c = last_of (λ before m. banned_by c m.pass m.action) moves

-- the ban of a core, as a span: a core that is not banned is in none, and one that is, in the one
-- that its last Ban began
abbrev pub ban_by : Option BannedFor → Option BanSpan → Option BanSpan
ban_by None begun = None
ban_by (Some ban) begun = begun

-- the ban that core c is under after these actions, if any
abbrev pub ban_at : List Move → ℕ → Option BanSpan
ban_at moves c = ban_by (ban_of (actions_in moves) c) (last_banned moves c)

-- the ban that an action of pass p ends, after these actions: an Unban that of its core; a Ban too,
-- where the core is banned already
abbrev pub lifted_by : List Move → ℕ → Action → Option BanSpan
lifted_by before p (Unban core) = option_map (lifted p) (ban_at before core)
lifted_by before p (Ban core thread started) = option_map (lifted p) (ban_at before core)
lifted_by before p (Free core) = None
lifted_by before p (Revoke core cause) = None
lifted_by before p (Cap task cap) = None
lifted_by before p (Grant core thread class) = None

-- the ban that each core is under is as the moves say
pub record AreBans (under : List (Option BanSpan)) (moves : List Move) : Type 0 where
  pub same : (c : ℕ) → c < 256 → slice_index_or under c None ≡ ban_at moves c

-- the tracker has come so far
abbrev pub TracksBans : BanTracker → List Move → Type 0
TracksBans tracker moves = AreBans tracker.under moves
