use Rattle.std.proofs.Common.{◌≡◌, [], ℕ, List, refl}
use Rattle.cal_engine.specs.Front.{front_of}
use Rattle.cal_trace.specs.History.Text.{history_text}
use Rattle.cal_view.proofs.RecordedRuns.{after_front}
use Rattle.cal_view.proofs.jobs.running.write_run.Goals as goal

pub returns-in-Ok : goal.returns-in-Ok
returns-in-Ok g c =
    let old = g.W.Write.contents c.args.writer.now in
    let mid = g.W.Write.contents c.write_after_front.new.writer in
    let new = g.W.Write.contents c.write_history.new.writer in
    let none : c.as_slice.result.now ≡ [] = c.as_slice.ensures in
    after_front old mid new (front_of c.args.front c.args.input.now) c.as_slice.result.now (history_text c.args.history.now) none c.in_ok-write_after_front.ensures.bytes c.in-Ok.ensures
