use Rattle.cal_trace.proofs.Common.{◌≡◌, drop, all_numbers, fields_of}
use Rattle.cal_trace.proofs.rows.fields.has_numbers.Given as goal

abbrev pub invariant-loop-place : goal.invariant-loop-place
invariant-loop-place l = all_numbers (drop 1 (fields_of l.row)) ≡ all_numbers (drop l.place (fields_of l.row))
