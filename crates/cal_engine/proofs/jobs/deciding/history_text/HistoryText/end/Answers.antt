use Rattle.cal_engine.proofs.Common.{◌++◌, sym, ap, ◌∙◌, begun_text, end_fields, line_of, begun_ends}
use Rattle.cal_engine.proofs.jobs.deciding.history_text.HistoryText.end.Goals as goal

pub returns-in-Ok-clause-text : goal.returns-in-Ok-clause-text
returns-in-Ok-clause-text c = λ h rows.
    c.in-Ok.ensures ∙ ap (λ t. t ++ line_of (end_fields c.args.self.passes)) rows.written ∙ ap (λ n. begun_text h ++ line_of (end_fields n)) rows.count ∙ sym (begun_ends h)
