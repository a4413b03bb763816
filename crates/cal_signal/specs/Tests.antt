-- The rules of records and looks once more as tests, for definitions that compute by them. The
-- public function of each rule says that it is both.
use Rattle.std.specs.Prelude.{◌==◌, ◌&&◌, ◌||◌, ◌%◌, nat_le, nat_lt, ℕ, Bool}
use Rattle.cal_machine.specs.declared.machine.TheConstants.{MOST_CORES}
use Rattle.cal_signal.specs.declared.record.Record.{Record}
use Rattle.cal_signal.specs.declared.record.TheConstants.{MOST_MISSES}
use Rattle.cal_signal.specs.Records.{is_same}
use Rattle.cal_signal.specs.declared.shown.Shown.{Shown}

-- `IsShaped`
abbrev pub is_shaped : Record → Bool
is_shaped rec = nat_le rec.running MOST_CORES && nat_le rec.misses MOST_MISSES

-- `IsLater`
abbrev pub is_later : Record → Record → Bool
is_later a b = nat_le a.taken b.taken && nat_le a.misses b.misses && nat_le a.stamp b.stamp

-- `IsShownAfter`
abbrev pub is_shown_after : Shown → Shown → Bool
is_shown_after a b = ((a.number == b.number) && is_same a.rec b.rec)
    || (nat_lt a.number b.number && is_later a.rec b.rec)

-- `IsBusyPair`
abbrev pub is_busy_pair : ℕ → ℕ → Bool
is_busy_pair first second = ((first % 2 == 1) && (second == first))
    || ((first % 2 == 0) && nat_lt first second)
