use Rattle.cal_run.proofs.Common.{◌++◌, ◌∷◌, [], List, ap, ◌∙◌, replicate_more, NONE}
use Rattle.cal_trace.specs.declared.report.tally.Tally.{Tally}
use Rattle.cal_run.proofs.collector.tallies.Tallies.new.Goals as goal

pub loop-preserved : goal.loop-preserved
loop-preserved c = c.in_ok-push.ensures.items ∙ ap (λ (l : List Tally). l ++ NONE ∷ []) c.loop.invariant ∙ replicate_more c.loop.counter NONE
