use Rattle.std.proofs.Common.{[], Some}
use Rattle.cal_engine.proofs.jobs.deciding.report_lines.ReportLinesKeeper.take.Goals as goal

pub returns-in-Ok-clause-keeps : goal.returns-in-Ok-clause-keeps
returns-in-Ok-clause-keeps c = λ h few lines. record {
  of = c.in-Ok.ensures.of h few lines.of;
  written = c.in-Ok.ensures.text (Some []) h lines.of lines.written;
}
