use Rattle.cal_trace.proofs.Common.{◌≡◌, [], length, read_on, whole, IsReading, rest_of}
use Rattle.cal_trace.proofs.rows.passes.all_passes.Given as goal

-- the passes so far and what is left to read give what the start did
abbrev pub invariant-loop-passes : goal.invariant-loop-passes
invariant-loop-passes g l = record {
  rows : IsReading l.rows;
  ready : g.R.PassReading.IsReady l.reading;
  kept : g.R.PassReading.KeepsPasses l.passes.items l.reading;
  same : read_on (g.R.PassReading.take (g.R.PassReading.file l.reading)) whole (g.R.PassReading.so_far l.passes.items l.reading) l.rows
      ≡ read_on (g.R.PassReading.take (g.R.PassReading.file l.initial.reading)) whole (g.R.PassReading.so_far [] l.initial.reading) l.initial.rows;
}

abbrev pub decreases-loop-passes : goal.decreases-loop-passes
decreases-loop-passes g l = length (rest_of l.rows)
