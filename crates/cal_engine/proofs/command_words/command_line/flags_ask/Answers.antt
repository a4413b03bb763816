use Rattle.cal_engine.proofs.Common.{◌≡◌, Bool, codes, refl, ◌∙◌, answer_of}
use Rattle.cal_engine.proofs.CommandWords.{flag_read}
use Rattle.cal_engine.proofs.command_words.command_line.flags_ask.Goals as goal

alike : (s r t u v w : Bool) → s ≡ u → r ≡ v → t ≡ w → answer_of s r t ≡ answer_of u v w
alike s r t u v w e f g = rw (e, f, g) refl

pub returns : goal.returns
returns c = λ asked asks.
    let summary = c.get_flag.ensures in
    let report = c.get_flag-2.ensures in
    let table = c.get_flag-3.ensures in
    c.answer_of.ensures ∙ alike _ _ _ _ _ _
    (flag_read c.args.flags.now (codes "summary") c.get_flag.result summary.none summary.value summary.other asks.summary asks.says_summary)
    (flag_read c.args.flags.now (codes "report") c.get_flag-2.result report.none report.value report.other asks.report asks.says_report)
    (flag_read c.args.flags.now (codes "table") c.get_flag-3.result table.none table.value table.other asks.table asks.says_table)
    ∙ asks.ask
