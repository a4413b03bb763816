-- When an auditor's verdict is that of a history.
use Rattle.std.specs.Prelude.{◌≡◌, ◌-◌, ◌^◌, List, length, min}
use Rattle.cal_machine.specs.Table.{Table}
use Rattle.cal_policy.specs.declared.auditor.Auditor.{Auditor}
use Rattle.cal_policy.specs.declared.history.entry.PassEntry.{PassEntry}
use Rattle.cal_policy.specs.declared.policy.Policy.TheVariants.{Caladan}
use Rattle.cal_policy.specs.declared.verdict.Verdict.{Verdict}
use Rattle.cal_policy.specs.declared.verdict.Verdict.TheVariants.{Legal, Illegal}
use Rattle.cal_policy.specs.Book.{board_in}
use Rattle.cal_policy.specs.State.{IsReady, IsStateAfter}
use Rattle.cal_policy.specs.Verdict.{IsVerdict}

-- the board of the auditor's book is ready for the table
abbrev pub IsAuditorOf : Table → Auditor → Type 0
IsAuditorOf table auditor = IsReady table (board_in auditor.book)

-- as long as each pass was the policy's, the auditor's book keeps the state after the history, and
-- it has counted the passes, as far as its number goes
abbrev pub KeepsUp : List PassEntry → Auditor → Verdict → Type 0
KeepsUp history auditor Legal =
    IsStateAfter (board_in auditor.book) history
    × (auditor.passes ≡ min (length history) (2 ^ 64 - 1))
KeepsUp history auditor (Illegal p) = Unit {0}

-- the auditor goes by Caladan's policy, was handed this history, and its verdict is the history's
pub record IsAuditOf (table : Table) (history : List PassEntry) (auditor : Auditor) : Type 0 where
  pub policy : auditor.book.policy ≡ Caladan
  pub right : IsVerdict table history auditor.verdict
  pub keeps_up : KeepsUp history auditor auditor.verdict
