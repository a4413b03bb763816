use Rattle.std.proofs.Common.{Some, []}
use Rattle.cal_engine.proofs.jobs.auditing.OpenAudit.end_report.Goals as goal

pub returns-in-Ok-clause-text : goal.returns-in-Ok-clause-text
returns-in-Ok-clause-text c = λ policy h takes legal.
    c.in-Ok.ensures (Some []) h takes.of (c.board.ensures.own policy c.args.config.now h legal takes.audits).actions takes.written
