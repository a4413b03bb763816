-- What a thread showed of itself, what it may show next, and what looks at its page found.
use Rattle.std.specs.Prelude.{◌≡◌, ℕ, ◌<◌, ◌≤◌, List, [], ◌∷◌}
use Rattle.cal_signal.specs.declared.record.Record.{Record}
use Rattle.cal_signal.specs.declared.shown.Shown.{Shown}
use Rattle.cal_signal.specs.Records.{IsLater, IsShaped, zero_record}

-- place 0 and the zero record
abbrev pub nothing_shown : Shown
nothing_shown = record { number = 0; rec = zero_record }

-- a record may be shown after another: its place is not lower, the same place has the same record,
-- and a higher place a later one
pub record IsShownAfter (last next : Shown) : Type 0 where
  pub not_below : last.number ≤ next.number
  pub same : last.number ≡ next.number → last.rec ≡ next.rec
  pub later : last.number < next.number → IsLater last.rec next.rec

-- the record is shaped and may be shown after the last one
abbrev pub IsFitShown : Shown → Shown → Type 0
IsFitShown last next = IsShaped next.rec × IsShownAfter last next

-- what a look found, of its place and its record
abbrev pub shown_of : ℕ × Record → Shown
shown_of look = record { number = look.0; rec = look.1 }

-- what the last of these looks found; what was found before them, if there are none
abbrev pub found_from : Shown → List (ℕ × Record) → Shown
found_from last [] = last
found_from last (l ∷ ls) = found_from (shown_of l) ls

-- what the last look found, place 0 and the zero record where there was none
abbrev pub last_found : List (ℕ × Record) → Shown
last_found = found_from nothing_shown
