use Rattle.std.proofs.Common.{◌≡◌, ℕ, ◌<◌, ◌≤◌, ◌-◌, length, take}
use Rattle.cal_explain.specs.Comes.{ComesOf}
use Rattle.cal_explain.specs.Reached.{IsReached}
use Rattle.cal_explain.specs.declared.recorded.Explained.TheVariants.{Done}
use Rattle.cal_explain.proofs.recorded.Explainer.explain_passes.Given as goal

abbrev pub invariant-loop-pass : goal.invariant-loop-pass
invariant-loop-pass g l = record {
  from : l.fn.first ≤ l.pass;
  most : l.fn.first < l.pass → l.pass ≤ l.fn.last;
  reached : IsReached l.self.config.now (take l.pass l.self.history.now) l.state;
  each : (pass : ℕ) → l.fn.first ≤ pass → pass < l.pass → ComesOf l.self.config.now l.self.history.now pass Done;
  untouched : l.pass ≡ l.fn.first → l.writer ≡ l.fn.writer;
}

abbrev pub decreases-loop-pass : goal.decreases-loop-pass
decreases-loop-pass g l = l.last - l.pass
