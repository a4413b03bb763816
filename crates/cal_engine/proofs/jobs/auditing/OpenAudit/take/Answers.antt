use Rattle.std.proofs.Common.{Some, [], arith}
use Rattle.cal_engine.proofs.jobs.auditing.OpenAudit.take.Goals as goal

pub returns-in-Ok-clause-takes : goal.returns-in-Ok-clause-takes
returns-in-Ok-clause-takes c = λ policy h few takes. record {
  audits = c.next.ensures.own policy h (omega (arith, few)) takes.audits;
  of = c.in-Ok.ensures.of h few takes.of;
  written = c.in-Ok.ensures.text (Some []) h takes.of takes.written;
}
