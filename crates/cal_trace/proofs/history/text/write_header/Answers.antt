use Rattle.std.proofs.lemmas.Result.{on_ok_weaker}
use Rattle.cal_trace.proofs.HistoryLemmas.Lines.{header_line}
use Rattle.cal_trace.proofs.history.text.write_header.Goals as goal

pub returns : goal.returns
returns g c = on_ok_weaker c.writeln.result (λ written. header_line _ _ _ c.word-version.ensures written) c.writeln.ensures.bytes
