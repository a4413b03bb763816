use Rattle.cal_trace.proofs.Common.{◌≡◌, ◌<◌, ◌≤◌, ℕ, drop, get_or, all_numbers, number_at, fields_of}
use Rattle.cal_trace.specs.declared.rows.fields.TheConstants.{RECORD_FIELDS}
use Rattle.cal_trace.proofs.rows.fields.numbers_of.Given as goal

abbrev pub invariant-loop-place : goal.invariant-loop-place
invariant-loop-place l = record {
  all : all_numbers (drop 1 (fields_of l.row)) ≡ all_numbers (drop l.place (fields_of l.row));
  each : (k : ℕ) → 1 ≤ k → k < RECORD_FIELDS → k < l.place → get_or l.numbers k 0 ≡ number_at (fields_of l.row) k;
  rest : (k : ℕ) → k < RECORD_FIELDS → l.place ≤ k → get_or l.numbers k 0 ≡ 0;
}
