use Rattle.cal_policy.proofs.Common.{◌≡◌, ◌-◌, ◌^◌, ◌++◌, ◌∷◌, [], length, min, subst, arith, length-append, both_ways, KeepsUp, IsPassBy, IsLegalBy, IsVerdictBy, Caladan, Legal, Illegal}
use Rattle.cal_policy.proofs.PolicyLemmas.{audit_parts, audit_from, verdict_stays, verdict_more, verdict_here, legal_of}
use Rattle.cal_policy.proofs.auditor.Auditor.next.Goals as goal

pub returns-in-Illegal-clause-own : goal.returns-in-Illegal-clause-own
returns-in-Illegal-clause-own c = λ policy h few audits.
    let table = c.args.config.now in
    let parts = audit_parts policy table h c.args.self.now audits in
    let first : IsVerdictBy policy table h (Illegal c.in-Illegal.pass) = rw c.in-Illegal.is at parts.right in
    audit_from policy table (h ++ c.args.entry.now ∷ []) c.args.self.now (record {
      policy_kept = parts.policy_kept;
      right = rw c.in-Illegal.is (verdict_stays policy table h c.args.entry.now c.in-Illegal.pass first);
      keeps_up = rw c.in-Illegal.is tt;
    })

pub returns-then-is_next-clause-own : goal.returns-then-is_next-clause-own
returns-then-is_next-clause-own c = λ policy h few audits.
    let table = c.args.config.now in
    let entry = c.args.entry.now in
    let parts = audit_parts policy table h c.args.self.now audits in
    let right : IsVerdictBy policy table h Legal = rw c.in-Legal.is at parts.right in
    let legal : IsLegalBy c.args.self.now.book.policy table h = rw parts.policy_kept (legal_of policy table h right) in
    let keeps : KeepsUp h c.args.self.now Legal = rw c.in-Legal.is at parts.keeps_up in
    let pass : IsPassBy policy table h entry = rw parts.policy_kept at ((c.is_next.ensures.exact h legal keeps.0).0 c.if-is_next.true) in
    let counted : c.saturating_add-self.result ≡ min (length (h ++ entry ∷ [])) (2 ^ 64 - 1) = omega (arith, c.saturating_add-self.ensures, keeps.1, length-append h (entry ∷ [])) in
    audit_from policy table (h ++ entry ∷ []) _ (record {
      policy_kept = rw c.is_next.ensures.policy parts.policy_kept;
      right = rw c.in-Legal.is (verdict_more policy table h entry right pass);
      keeps_up = rw c.in-Legal.is (c.is_next.ensures.agrees c.if-is_next.true h legal keeps.0, counted);
    })

pub returns-else-is_next-clause-own : goal.returns-else-is_next-clause-own
returns-else-is_next-clause-own c = λ policy h few audits.
    let table = c.args.config.now in
    let entry = c.args.entry.now in
    let parts = audit_parts policy table h c.args.self.now audits in
    let right : IsVerdictBy policy table h Legal = rw c.in-Legal.is at parts.right in
    let legal : IsLegalBy c.args.self.now.book.policy table h = rw parts.policy_kept (legal_of policy table h right) in
    let keeps : KeepsUp h c.args.self.now Legal = rw c.in-Legal.is at parts.keeps_up in
    let number : length h ≡ c.args.self.now.passes = omega (arith, few, keeps.1) in
    let first : IsVerdictBy policy table (h ++ entry ∷ []) (Illegal (length h)) =
    verdict_here policy table h entry right (λ pass. both_ways c.is_next.result c.if-is_next.false ((c.is_next.ensures.exact h legal keeps.0).1 (rw parts.policy_kept pass))) in
    audit_from policy table (h ++ entry ∷ []) _ (record {
      policy_kept = rw c.is_next.ensures.policy parts.policy_kept;
      right = subst (λ p. IsVerdictBy policy table (h ++ entry ∷ []) (Illegal p)) number first;
      keeps_up = tt;
    })

-- of Caladan's policy
pub returns-in-Illegal-clause-audits : goal.returns-in-Illegal-clause-audits
returns-in-Illegal-clause-audits c = returns-in-Illegal-clause-own c Caladan

pub returns-then-is_next-clause-audits : goal.returns-then-is_next-clause-audits
returns-then-is_next-clause-audits c = returns-then-is_next-clause-own c Caladan

pub returns-else-is_next-clause-audits : goal.returns-else-is_next-clause-audits
returns-else-is_next-clause-audits c = returns-else-is_next-clause-own c Caladan
