-- An audit, as contracts see it, and what C learns of opening one and of handing it a pass.
use Rattle.std.specs.Prelude.{◌≡◌, ℕ, ◌<◌, ◌^◌, [], List, ◌∷◌, ◌++◌, length, Option, Result, Ok}
use Rattle.std.specs.Prelude.{Err}
use Rattle.std.specs.Option.{IsSomeAnd}
use Rattle.cal_machine.specs.Table.{Table}
use Rattle.cal_machine.specs.declared.fault.ConfigFault.{ConfigFault}
use Rattle.cal_policy.specs.declared.auditor.Auditor.{Auditor}
use Rattle.cal_policy.specs.declared.history.entry.PassEntry.{PassEntry}
use Rattle.cal_policy.specs.declared.policy.Policy.{Policy}
use Rattle.cal_policy.specs.Policies.{IsAuditBy}
use Rattle.caladan_c.specs.Opening.{number_of}
use Rattle.caladan_c.specs.Recorded.{IsToldOf}
use Rattle.caladan_c.specs.declared.found.Found.{Found}
use Rattle.caladan_c.specs.declared.told.Told.{Told}

-- its table, and the auditor of the passes so far
pub record AuditView : Type 0 where
  pub table : Table
  pub auditor : Auditor

-- it was handed these passes, and what it says by this policy is true of them
abbrev pub HasAudited : Policy → AuditView → List PassEntry → Type 0
HasAudited policy audit history = IsAuditBy policy audit.table history audit.auditor

-- an audit of this table by this policy, of no pass
pub record IsNewAudit (policy : Policy) (read : Table) (audit : AuditView) : Type 0 where
  pub table : audit.table ≡ read
  pub audits : HasAudited policy audit []

-- the number follows from the text: 0 and an audit of its table by this policy, or its first
-- fault's
abbrev pub SaysAudit : Policy → Result Table ConfigFault → ℕ → Option AuditView → Type 0
SaysAudit policy (Ok table) number kept =
    (number ≡ 0) × IsSomeAnd kept (IsNewAudit policy table)
SaysAudit policy (Err fault) number kept = number ≡ number_of fault

-- the audit took this entry as the next pass of its history
pub record TookNext (old : AuditView) (entry : PassEntry) (new : AuditView) : Type 0 where
  pub table : new.table ≡ old.table
  pub audits : (policy : Policy) (h : List PassEntry) → length h < 2 ^ 64 →
      HasAudited policy old h → HasAudited policy new (h ++ entry ∷ [])

-- what was recorded is a pass, and the audit took it as the next one of its history
pub record TookRecorded (old : AuditView) (now bandwidth : ℕ) (looks : List Found) (judged : List ℕ)
    (actions : List Told) (new : AuditView) : Type 0 where
  pub entry : PassEntry
  pub recorded : IsToldOf now bandwidth looks judged actions entry
  pub taken : TookNext old entry new
