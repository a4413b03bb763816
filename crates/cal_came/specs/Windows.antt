-- A part of a run, by turns.
use Rattle.std.specs.Prelude.{ℕ, nat_le, nat_lt, Bool, true, ◌&&◌, Option, Some, None}
use Rattle.cal_came.specs.declared.window.Window.{Window}

-- a turn is before the end, where there is one
abbrev pub is_before : ℕ → Option ℕ → Bool
is_before turn None = true
is_before turn (Some end) = nat_lt turn end

-- a turn is within a window: from its first turn on, and before its end
abbrev pub is_within : Window → ℕ → Bool
is_within window turn = nat_le window.from turn && is_before turn window.to

-- all of a run
abbrev pub whole : Window
whole = record { from = 0; to = None }
