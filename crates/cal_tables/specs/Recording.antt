-- A recorded history, measured.
use Rattle.std.specs.Prelude.{List}
use Rattle.cal_machine.specs.Table.{Table}
use Rattle.cal_policy.specs.Policies.{IsLegalBy, IsVerdictBy}
use Rattle.cal_policy.specs.declared.history.entry.PassEntry.{PassEntry}
use Rattle.cal_policy.specs.declared.policy.Policy.{Policy}
use Rattle.cal_policy.specs.declared.verdict.Verdict.TheVariants as verdicts
use Rattle.cal_tables.specs.Measured.{AreHistoryNumbers}
use Rattle.cal_tables.specs.declared.recorded.HistoryNumbers.{HistoryNumbers}
use Rattle.cal_tables.specs.declared.recorded.Recorded.{Recorded}
use Rattle.cal_tables.specs.declared.recorded.Recorded.TheVariants.{Legal, Illegal}

-- the history is one of some policy
pub record IsOfAPolicy (table : Table) (history : List PassEntry) : Type 0 where
  pub policy : Policy
  pub legal : IsLegalBy policy table history

-- the history is the policy's, and these are the numbers of its cores
pub record AreLegalNumbers (policy : Policy) (table : Table) (history : List PassEntry)
    (numbers : HistoryNumbers) : Type 0 where
  pub legal : IsLegalBy policy table history
  pub are : AreHistoryNumbers table history numbers

-- what is said of a history by the policy: its numbers, or the first pass that is none
abbrev pub IsMeasured : Policy → Table → List PassEntry → Recorded → Type 0
IsMeasured policy table history (Legal numbers) = AreLegalNumbers policy table history numbers
IsMeasured policy table history (Illegal pass) =
    IsVerdictBy policy table history (verdicts.Illegal pass)
