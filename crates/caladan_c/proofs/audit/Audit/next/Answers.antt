use Rattle.std.proofs.Common.{refl, subst}
use Rattle.caladan_c.specs.AuditView.{AuditView, TookNext}
use Rattle.caladan_c.proofs.audit.Audit.next.Goals as goal

pub returns : goal.returns
returns c = subst (λ (a : AuditView). TookNext a c.args.entry.now (record { table = c.self.inside.config; auditor = c.next.new.self })) c.self.view_is
    (record { table = refl; audits = c.next.ensures.own })
