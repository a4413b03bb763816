use Rattle.std.proofs.Common.{◌≤◌, ◌∙◌, sym, arith}
use Rattle.cal_trace.proofs.RowLemmas.Digits.{no_digit, one_digit, all_digits, tens_fit, tens_more}
use Rattle.cal_trace.proofs.rows.number.few_digits.Goals as goal

pub push_to_small-requires : goal.push_to_small-requires
push_to_small-requires c =
    let few : c.loop-digit.digit-index ≤ 18 = omega (arith, c.loop-digit-test.true, c.requires) in
    tens_fit c.loop-digit.number c.loop-digit.digit-index few c.loop-digit.invariant.small

pub returns-in_err-number : goal.returns-in_err-number
returns-in_err-number c = c.from_residual.ensures
    ∙ sym (c.loop-digit.invariant.so_far ∙ no_digit c.loop-digit.number c.args.field.now c.loop-digit.digit-index c.loop-digit-test.true (sym c.in_err-number.ensures.pushed))

pub loop-digit-preserved : goal.loop-digit-preserved
loop-digit-preserved c = record {
  so_far = c.loop-digit.invariant.so_far
      ∙ one_digit c.loop-digit.number c.in_ok-number.number c.args.field.now c.loop-digit.digit-index c.loop-digit-test.true (sym c.in_ok-number.ensures.pushed);
  small = tens_more c.loop-digit.number c.in_ok-number.number c.loop-digit.digit-index c.loop-digit.invariant.small c.in_ok-number.ensures.grows;
}

pub returns : goal.returns
returns c = sym (c.loop-digit.invariant.so_far ∙ all_digits c.loop-digit.number c.args.field.now c.loop-digit.digit-index c.loop-digit-test.false)
