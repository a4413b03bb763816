-- What an audit says of a history.
use Rattle.std.specs.Prelude.{◌≡◌, ℕ, ◌<◌, List, length, take, Some, slice_get}
use Rattle.cal_machine.specs.Table.{Table}
use Rattle.cal_policy.specs.declared.history.entry.PassEntry.{PassEntry}
use Rattle.cal_policy.specs.declared.verdict.Verdict.{Verdict}
use Rattle.cal_policy.specs.declared.verdict.Verdict.TheVariants.{Legal, Illegal}
use Rattle.cal_policy.specs.Pass.{IsPass, IsLegal}

-- pass p is the first that is none: those before it are legal, and it is no pass after them
pub record IsFirstIllegal (table : Table) (history : List PassEntry) (p : ℕ) : Type 0 where
  pub within : p < length history
  pub before : IsLegal table (take p history)
  pub illegal : (entry : PassEntry) → slice_get history p ≡ Some entry →
      ¬ IsPass table (take p history) entry

-- Legal where the history is legal, else the first pass that is none
abbrev pub IsVerdict : Table → List PassEntry → Verdict → Type 0
IsVerdict table history Legal = IsLegal table history
IsVerdict table history (Illegal p) = IsFirstIllegal table history p
