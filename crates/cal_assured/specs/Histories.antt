-- Which histories of this policy are legal.
use Rattle.std.specs.Prelude.{ℕ, ◌↔◌, List, [], ◌∷◌, ◌++◌, take}
use Rattle.cal_machine.specs.Table.{Table}
use Rattle.cal_policy.specs.declared.history.entry.PassEntry.{PassEntry}
use Rattle.cal_policy.specs.Assured.Pass.{IsPass, IsLegal}

-- nothing is a legal history
abbrev pub NothingIsLegal : Type 0
NothingIsLegal = (table : Table) → IsLegal table []

-- a legal history cut off after any number of passes is legal
abbrev pub PrefixesAreLegal : Type 0
PrefixesAreLegal = (table : Table) (history : List PassEntry) (p : ℕ) → IsLegal table history →
    IsLegal table (take p history)

-- a history with one entry more is legal exactly where it was legal and the entry is a pass after
-- it
abbrev pub OnePassMoreIsLegal : Type 0
OnePassMoreIsLegal = (table : Table) (history : List PassEntry) (entry : PassEntry) →
    IsLegal table (history ++ entry ∷ []) ↔ (IsLegal table history × IsPass table history entry)
