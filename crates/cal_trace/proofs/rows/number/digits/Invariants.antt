use Rattle.cal_trace.proofs.Common.{◌≡◌, drop, digits_of}
use Rattle.cal_trace.proofs.rows.number.digits.Given as goal

abbrev pub invariant-loop-digit : goal.invariant-loop-digit
invariant-loop-digit l = digits_of 0 l.field ≡ digits_of l.number (drop l.digit-index l.field)
