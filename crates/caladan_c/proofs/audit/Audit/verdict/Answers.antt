use Rattle.caladan_c.proofs.Common.{List, subst, IsVerdictBy, PassEntry}
use Rattle.cal_policy.specs.declared.policy.Policy.{Policy}
use Rattle.caladan_c.specs.AuditView.{AuditView, HasAudited}
use Rattle.caladan_c.proofs.audit.Audit.verdict.Goals as goal

pub returns : goal.returns
returns c = subst (λ (a : AuditView). (policy : Policy) (h : List PassEntry) → HasAudited policy a h → IsVerdictBy policy a.table h c.verdict.result) c.self.view_is
    (λ policy h audits. c.verdict.ensures.own policy c.self.inside.config h audits)
