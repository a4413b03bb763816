-- What comes of a pass of a history that is to be explained.
use Rattle.std.specs.Prelude.{◌≡◌, ◌<◌, ◌≤◌, ℕ, List, length, take, Some, slice_get}
use Rattle.cal_machine.specs.Table.{Table}
use Rattle.cal_policy.specs.Judgement.Judging.{IsInput}
use Rattle.cal_policy.specs.Judgement.Orderly.{IsOrderly}
use Rattle.cal_policy.specs.declared.history.entry.PassEntry.{PassEntry}
use Rattle.cal_explain.specs.declared.recorded.Explained.{Explained}
use Rattle.cal_explain.specs.declared.recorded.Explained.TheVariants.{Done, NoInput, NoPass}
use Rattle.cal_explain.specs.declared.recorded.Explained.TheVariants.{NotOrderly}

-- the history has such a pass, and the passes before it are orderly
pub record IsAfterOrderly (table : Table) (history : List PassEntry) (pass : ℕ) : Type 0 where
  pub within : pass < length history
  pub orderly : IsOrderly table (take pass history)

-- the pass may be given its looks after those before it
abbrev pub HasInput : Table → List PassEntry → ℕ → Type 0
HasInput table history pass = (entry : PassEntry) → slice_get history pass ≡ Some entry →
    IsInput table (take pass history) entry.input

-- the pass may not be given its looks after those before it
abbrev pub LacksInput : Table → List PassEntry → ℕ → Type 0
LacksInput table history pass = (entry : PassEntry) → slice_get history pass ≡ Some entry →
    ¬ IsInput table (take pass history) entry.input

-- this comes of the pass: it is explained where the history has it, those before it are orderly and
-- it may be given its looks; else the first of these that is not so is named
abbrev pub ComesOf : Table → List PassEntry → ℕ → Explained → Type 0
ComesOf table history pass NoPass = length history ≤ pass
ComesOf table history pass NotOrderly =
    (pass < length history) × (¬ IsOrderly table (take pass history))
ComesOf table history pass NoInput =
    IsAfterOrderly table history pass × LacksInput table history pass
ComesOf table history pass Done = IsAfterOrderly table history pass × HasInput table history pass
