use Rattle.std.proofs.lemmas.Result.{on_ok_weaker}
use Rattle.cal_trace.proofs.HistoryLemmas.Lines.{whole_history}
use Rattle.cal_trace.proofs.history.text.write_rows.Goals as goal

pub returns : goal.returns
returns g c = on_ok_weaker c.write_end.result (λ last. whole_history _ _ _ _ c.args.history.now c.in_ok-write_header.ensures c.in_ok-write_entries.ensures last) c.write_end.ensures
