use Rattle.cal_policy.proofs.Common.{◌≡◌, List, refl, Table, KeepsUp, IsLegalBy, IsVerdictBy, IsStateAfter, PassEntry, Policy, Caladan, Legal, Illegal}
use Rattle.cal_policy.specs.declared.verdict.Verdict.{Verdict}
use Rattle.cal_policy.proofs.PolicyLemmas.{AuditParts, audit_parts, never_illegal_by}
use Rattle.cal_policy.proofs.auditor.Auditor.board.Goals as goal

pub returns-clause-own : goal.returns-clause-own
returns-clause-own c = λ policy table h legal audits. go policy table h legal (audit_parts policy table h c.args.self.now audits) c.args.self.now.verdict refl
  where
    go : (policy : Policy) (table : Table) (h : List PassEntry) → IsLegalBy policy table h → AuditParts policy table h c.args.self.now → (v : Verdict) → c.args.self.now.verdict ≡ v → IsStateAfter c.board.result.now h
    go policy table h legal parts Legal is = let keeps : KeepsUp h c.args.self.now Legal = rw is at parts.keeps_up in c.board.ensures.agrees h keeps.0
    go policy table h legal parts (Illegal p) is = let first : IsVerdictBy policy table h (Illegal p) = rw is at parts.right in absurd (never_illegal_by policy table h p legal first)

-- of Caladan's policy
pub returns-clause-agrees : goal.returns-clause-agrees
returns-clause-agrees c = returns-clause-own c Caladan
