use Rattle.std.proofs.Common.{List, subst}
use Rattle.std.specs.Io.KnownBytes.{Appends}
use Rattle.cal_policy.specs.declared.history.entry.PassEntry.{PassEntry}
use Rattle.cal_view.specs.Recording.{recorded_text}
use Rattle.cal_view.proofs.jobs.running.record_run.Goals as goal

pub returns-in-Ok-clause-exact : goal.returns-in-Ok-clause-exact
returns-in-Ok-clause-exact g c = record {
  made = c.in_ok-made.made;
  asked = c.in_ok-made.ensures.history;
  appended = subst
      (λ (h : List PassEntry). Appends (g.W.Write.contents c.args.writer.now) (g.W.Write.contents c.write_run.new.writer) (recorded_text c.args.front c.args.input.now h))
      c.as_slice.ensures.value c.in-Ok.ensures;
}
