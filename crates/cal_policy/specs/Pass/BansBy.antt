-- The second and third part of a pass, by its policy. Of Caladan's these are the definitions of
-- Bans.antt, of the second policy's those of Assured/Hyperthreads.antt.
use Rattle.std.specs.Prelude.{ℕ, ◌&&◌, Bool, false, List, Option, None, if◌then◌else◌}
use Rattle.cal_machine.specs.Machine.{sibling_of}
use Rattle.cal_policy.specs.declared.board.bans.BannedFor.{BannedFor}
use Rattle.cal_policy.specs.declared.history.action.Action.{Action}
use Rattle.cal_policy.specs.declared.policy.Policy.{Policy}
use Rattle.cal_policy.specs.declared.policy.Policy.TheVariants.{Caladan, Assured}
use Rattle.cal_policy.specs.Assured.Hyperthreads as assured
use Rattle.cal_policy.specs.Assured.Short.{are_lacked, are_wanted}
use Rattle.cal_policy.specs.Board.Counts.{is_free}
use Rattle.cal_policy.specs.History.Lists.{in_turn}
use Rattle.cal_policy.specs.History.{holder_of, ban_of}
use Rattle.cal_policy.specs.Pass.Bans.{ban_due, ban_for, unban_for}
use Rattle.cal_policy.specs.Setting.{Setting, so_far}

-- bans give way to short tasks: those of the second policy do, where open cores are wanted
abbrev pub give_way : Policy → Setting → List Action → Bool
give_way Caladan s x = false
give_way Assured s x = are_wanted s x

-- the end of a ban on core c
abbrev pub unban_for_by : Policy → Setting → List Action → ℕ → Option BannedFor → List Action
unban_for_by Caladan s x c ban = unban_for s c ban
unban_for_by Assured s x c ban = assured.unban_for s x c ban

abbrev pub unban_at_by : Policy → Setting → List Action → ℕ → List Action
unban_at_by policy s acts c = unban_for_by policy s (so_far s acts) c (ban_of (so_far s acts) c)

-- each core upwards
abbrev pub unbans_by : Policy → Setting → List Action → List Action
unbans_by policy s acts = in_turn (unban_at_by policy s) acts s.table.cores

-- the sibling of core c stays open though a ban is due: under the second policy, where it is free
-- and open cores are lacked
abbrev pub stays_open : Policy → Setting → List Action → ℕ → Bool
stays_open Caladan s x c = false
stays_open Assured s x c = is_free (holder_of x (sibling_of c)) && are_lacked s x

-- the thread for whose request on core c the sibling is to be banned, where a ban is due
abbrev pub ban_due_by : Policy → Setting → List Action → ℕ → Option ℕ
ban_due_by policy s x c = if stays_open policy s x c then None else ban_due s x c

abbrev pub bans_at_by : Policy → Setting → List Action → ℕ → List Action
bans_at_by policy s acts c = ban_for s (so_far s acts) c (ban_due_by policy s (so_far s acts) c)

-- each core upwards
abbrev pub bans_by : Policy → Setting → List Action → List Action
bans_by policy s acts = in_turn (bans_at_by policy s) acts s.table.cores
