-- The first part of a pass: cores whose thread has acknowledged its Run and left are free. (After
-- Caladan's yields; the test is Doranjei's own.)
use Rattle.std.specs.Prelude.{ℕ, ◌==◌, ◌&&◌, Bool, false, nat_le, List, [], ◌∷◌, if◌then◌else◌}
use Rattle.cal_signal.specs.declared.record.Record.{Record}
use Rattle.cal_policy.specs.declared.history.action.Action.{Action}
use Rattle.cal_policy.specs.declared.history.action.Action.TheVariants.{Free}
use Rattle.cal_policy.specs.declared.board.holders.Holder.{Holder}
use Rattle.cal_policy.specs.declared.board.holders.Holder.TheVariants as holders
use Rattle.cal_policy.specs.History.Lists.{in_turn}
use Rattle.cal_policy.specs.History.{holder_of}
use Rattle.cal_policy.specs.Setting.{Setting, so_far, kept_now}

-- a record shows that the core of Run number r was left: it acknowledges that Run, and its thread
-- is on no core
abbrev pub has_left : Record → ℕ → Bool
has_left rec r = nat_le r rec.taken && (rec.running == 0)

-- the kept record of the core's thread shows that it left
abbrev pub shows_left : (ℕ → Record) → Holder → Bool
shows_left kept holders.Free = false
shows_left kept (holders.Held placement) = has_left (kept placement.thread) placement.number
shows_left kept (holders.Leaving placement cause) =
    has_left (kept placement.thread) placement.number

-- core c is freed where it was left
abbrev pub free_at : Setting → List Action → ℕ → List Action
free_at s acts c = if shows_left (kept_now s) (holder_of (so_far s acts) c) then Free c ∷ [] else []

-- each core upwards
abbrev pub frees : Setting → List Action → List Action
frees s acts = in_turn (free_at s) acts s.table.cores
