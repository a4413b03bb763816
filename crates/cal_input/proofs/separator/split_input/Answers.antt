use Rattle.std.proofs.Common.{sym, ◌∙◌}
use Rattle.cal_input.proofs.LinesOf.{goes_on, next_line, is_here, is_nowhere}
use Rattle.cal_input.proofs.separator.split_input.Goals.{then-text-at-eq10+else-is_separator, else-text-at-eq10}
use Rattle.cal_input.proofs.separator.split_input.Goals as goal

pub returns-then-is_separator : goal.returns-then-is_separator
returns-then-is_separator c =
    is_here c.args.text.now c.loop-at.start c.loop-at.at c.loop-at-test.true c.if-text-at-eq10.true (sym c.is_separator.ensures ∙ c.if-is_separator.true) c.loop-at.invariant

pub loop-at-preserved : goal.loop-at-preserved
loop-at-preserved c = elim c.if-text-at-eq10.branch [
  | then-text-at-eq10+else-is_separator w ↦ rw w.start-is
      (next_line c.args.text.now c.loop-at.start c.loop-at.at c.loop-at-test.true w.if-text-at-eq10.true (sym w.is_separator.ensures ∙ w.if-is_separator.false) c.loop-at.invariant)
  | else-text-at-eq10 w ↦ rw w.start-is
      (goes_on c.args.text.now c.loop-at.start c.loop-at.at c.loop-at-test.true w.if-text-at-eq10.false c.loop-at.invariant)
]

pub returns : goal.returns
returns c = is_nowhere c.args.text.now c.loop-at.start c.loop-at.at c.loop-at-test.false c.loop-at.invariant
