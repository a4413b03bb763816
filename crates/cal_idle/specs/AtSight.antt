-- How a host sees that a pass is idle, by the pass before or by the last records alone.
use Rattle.std.specs.Prelude.{◌≡◌, ℕ, ◌⊎◌, List, [], ◌∷◌, ◌++◌, None, Some, slice_get, option_map}
use Rattle.cal_policy.specs.declared.history.entry.PassEntry.{PassEntry}
use Rattle.cal_policy.specs.declared.history.look.Seen.{Seen}
use Rattle.cal_policy.specs.History.{looks_of}
use Rattle.cal_policy.specs.History.Looks.{last_shown, record_to_keep, shown_by}
use Rattle.cal_policy.specs.Judgement.Settled.{seen_again}
use Rattle.cal_signal.specs.declared.shown.Shown.{Shown}
use Rattle.cal_idle.specs.Idle.{IsIdle}

-- a pass that does nothing, with the looks of the pass before, each judged as it was there
pub record LooksOnceMore (before : List PassEntry) (entry : PassEntry) : Type 0 where
  pub earlier : List PassEntry
  pub last : PassEntry
  pub after : before ≡ earlier ++ last ∷ []
  pub looks : entry.input.seen ≡ last.input.seen
  pub nothing_done : entry.actions ≡ []

-- it is idle
abbrev pub SameLooksAreIdle : Type 0
SameLooksAreIdle = (before : List PassEntry) (entry : PassEntry) → LooksOnceMore before entry →
    IsIdle before entry

-- a look lets be kept what it carried: it is neither Ahead nor Foreign
abbrev pub IsTaken : Seen → Type 0
IsTaken seen = record_to_keep seen ≡ option_map (λ (shown : Shown). shown.rec) (shown_by seen)

-- so it is with each look of these passes: none of them was refused after it was found whole
pub record AreAllTaken (history : List PassEntry) : Type 0 where
  pub taken : (p : ℕ) (entry : PassEntry) → slice_get history p ≡ Some entry →
      (k : ℕ) (seen : Seen) → slice_get entry.input.seen k ≡ Some seen → IsTaken seen

-- a pass that does nothing, and each look of which carried no record, or shows once more what its
-- thread showed last
pub record ShowsNothingElse (before : List PassEntry) (entry : PassEntry) : Type 0 where
  pub nothing_done : entry.actions ≡ []
  pub nothing_else : (k : ℕ) (seen : Seen) → slice_get entry.input.seen k ≡ Some seen →
      (shown_by seen ≡ None) ⊎ (seen ≡ seen_again (last_shown (looks_of before) k))

-- where each look so far was taken, it is idle
abbrev pub RecordsOnceMoreAreIdle : Type 0
RecordsOnceMoreAreIdle = (before : List PassEntry) (entry : PassEntry) → AreAllTaken before →
    ShowsNothingElse before entry → IsIdle before entry
