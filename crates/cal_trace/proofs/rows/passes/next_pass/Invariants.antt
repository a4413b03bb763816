use Rattle.cal_trace.proofs.Common.{◌≡◌, ◌≤◌, List, length, read_on, whole, IsReading, rest_of}
use Rattle.cal_trace.proofs.rows.passes.next_pass.Given as goal

-- no pass was handed out since the start
abbrev pub invariant-loop-reading : goal.invariant-loop-reading
invariant-loop-reading g l = record {
  rows : IsReading l.rows;
  ready : g.R.PassReading.IsReady l.reading;
  file : g.R.PassReading.file l.reading ≡ g.R.PassReading.file l.initial.reading;
  given : (given : List _) → g.R.PassReading.KeepsPasses given l.initial.reading → g.R.PassReading.KeepsPasses given l.reading
      × (read_on (g.R.PassReading.take (g.R.PassReading.file l.reading)) whole (g.R.PassReading.so_far given l.reading) l.rows
      ≡ read_on (g.R.PassReading.take (g.R.PassReading.file l.initial.reading)) whole (g.R.PassReading.so_far given l.initial.reading) l.initial.rows);
  fewer : length (rest_of l.rows) ≤ length (rest_of l.initial.rows);
}

abbrev pub decreases-loop-reading : goal.decreases-loop-reading
decreases-loop-reading g l = length (rest_of l.rows)
