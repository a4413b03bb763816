use Rattle.std.proofs.Common.{[], Some}
use Rattle.cal_engine.proofs.jobs.deciding.report_lines.ReportLines.end.Goals as goal

pub returns-in-Ok-clause-text : goal.returns-in-Ok-clause-text
returns-in-Ok-clause-text c = λ h lines agrees. c.in-Ok.ensures (Some []) h lines.of agrees.actions lines.written
