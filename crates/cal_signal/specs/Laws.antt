-- Laws over the definitions alone.
use Rattle.std.specs.Prelude.{◌≡◌, ℕ, List, [], ◌∷◌, ◌++◌}
use Rattle.cal_signal.specs.declared.record.Record.{Record}
use Rattle.cal_signal.specs.Pages.{FitsSomePage, floor_of}
use Rattle.cal_signal.specs.Shown.{IsFitShown, shown_of, last_found}

-- of looks that fit some page the last one found a shaped record that may be shown after what the
-- looks before it found
abbrev pub LooksFollow : Type 0
LooksFollow = (looks : List (ℕ × Record)) (look : ℕ × Record) → FitsSomePage (looks ++ look ∷ []) →
    IsFitShown (last_found looks) (shown_of look)

-- what looks found last: its place is their floor, and after one more look it is what that one
-- found
pub record IsOneLookMore (looks : List (ℕ × Record)) (look : ℕ × Record) : Type 0 where
  pub floor : floor_of looks ≡ (last_found looks).number
  pub last : last_found (looks ++ look ∷ []) ≡ shown_of look

abbrev pub OneLookMore : Type 0
OneLookMore = (looks : List (ℕ × Record)) (look : ℕ × Record) → IsOneLookMore looks look
