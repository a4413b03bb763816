-- The bans of a history, as a list.
use Rattle.std.specs.Prelude.{ℕ, zero, suc, List, [], ◌++◌}
use Rattle.cal_measure.specs.Spans.Bans.{ban_at, lifted_by}
use Rattle.cal_measure.specs.Spans.{Move, moves_of}
use Rattle.cal_measure.specs.Turns.{one_of}
use Rattle.cal_measure.specs.declared.spans.bans.BanSpan.{BanSpan}
use Rattle.cal_policy.specs.History.Lists.{each_of}
use Rattle.cal_policy.specs.declared.history.entry.PassEntry.{PassEntry}

-- the ban that an action ends, told those before it
abbrev pub lifted_in : List Move → Move → List BanSpan
lifted_in before m = one_of (lifted_by before m.pass m.action)

-- the bans that these actions end, in their order
abbrev pub lifted_of : List Move → List BanSpan
lifted_of moves = each_of lifted_in moves

-- the bans that the cores below n are under after these actions, by core
abbrev pub open_bans : List Move → ℕ → List BanSpan
open_bans moves zero = []
open_bans moves (suc n) = open_bans moves n ++ one_of (ban_at moves n)

-- the bans of a history: those that ended, as they did, and then those that go on at its end, by
-- core
abbrev pub bans_of : ℕ → List PassEntry → List BanSpan
bans_of cores history = lifted_of (moves_of history) ++ open_bans (moves_of history) cores
