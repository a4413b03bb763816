use Rattle.std.proofs.Common.{◌∙◌, sym}
use Rattle.cal_trace.proofs.RowLemmas.Digits.{no_digit, one_digit, all_digits}
use Rattle.cal_trace.proofs.rows.number.digits.Goals as goal

pub returns-in_err-number : goal.returns-in_err-number
returns-in_err-number c = c.from_residual.ensures ∙ sym (c.loop-digit.invariant ∙ no_digit c.loop-digit.number c.args.field.now c.loop-digit.digit-index c.loop-digit-test.true (sym c.in_err-number.ensures))

pub loop-digit-preserved : goal.loop-digit-preserved
loop-digit-preserved c = c.loop-digit.invariant ∙ one_digit c.loop-digit.number c.in_ok-number.number c.args.field.now c.loop-digit.digit-index c.loop-digit-test.true (sym c.in_ok-number.ensures)

pub returns : goal.returns
returns c = sym (c.loop-digit.invariant ∙ all_digits c.loop-digit.number c.args.field.now c.loop-digit.digit-index c.loop-digit-test.false)
