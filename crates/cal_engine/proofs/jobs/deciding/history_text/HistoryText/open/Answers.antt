use Rattle.cal_engine.proofs.Common.{◌≡◌, refl, sym, ◌∙◌, rules, append-nil, header_row, line_of}
use Rattle.cal_engine.proofs.jobs.deciding.history_text.HistoryText.open.Goals as goal

pub returns-in-Ok-clause-rows : goal.returns-in-Ok-clause-rows
returns-in-Ok-clause-rows c =
    let first : c.write_history_header.new.writer.items ≡ line_of header_row = search rules in
    record { written = first ∙ sym (append-nil (line_of header_row)); count = refl }
