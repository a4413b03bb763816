use Rattle.cal_engine.proofs.Common.{extent_of, rows_of}
use Rattle.cal_trace.specs.History.{history_of}
use Rattle.cal_engine.proofs.Audited.{answered}
use Rattle.cal_engine.proofs.jobs.auditing.audited.Goals as goal

pub returns-clause-answer : goal.returns-clause-answer
returns-clause-answer c =
    let table = c.in_ok-config.config in
    rw c.in_ok-config.ensures
    (answered c.args.policy table (history_of (extent_of table) (rows_of c.in_ok-config.trace.now)) c.in_ok-audit.audit c.verdict-verdict.result c.in_ok-text.text.items c.verdict-verdict.ensures.own
    c.in_ok-audit.ensures.audits (c.in_ok-text.ensures.text c.args.policy))
