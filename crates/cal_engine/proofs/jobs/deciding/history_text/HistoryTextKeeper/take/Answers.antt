use Rattle.cal_engine.proofs.Common.{◌++◌, ◌∷◌, [], length-append, sym, ap, ◌∙◌, arith, entry_rows, lines_of, begun_more}
use Rattle.cal_engine.proofs.jobs.deciding.history_text.HistoryTextKeeper.take.Goals as goal

pub returns-in-Ok-clause-keeps : goal.returns-in-Ok-clause-keeps
returns-in-Ok-clause-keeps c = λ h few rows. record {
  written = c.in-Ok.ensures ∙ ap (λ t. t ++ lines_of (entry_rows c.args.entry)) rows.written ∙ sym (begun_more h c.args.entry);
  count = omega (arith, few, rows.count, length-append h (c.args.entry ∷ []));
}
