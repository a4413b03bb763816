use Rattle.cal_trace.proofs.Common.{◌≡◌, length, read_on, IsReading, rest_of}
use Rattle.cal_trace.proofs.rows.reading.take_rows.Given as goal

-- what is left to read says the same of the whole as the start did
abbrev pub invariant-loop-reading : goal.invariant-loop-reading
invariant-loop-reading g l = record {
  rows : IsReading l.rows;
  kept : g.R.Reading.KeepsRows l.reading;
  take : g.R.Reading.take l.reading ≡ g.R.Reading.take l.initial.reading;
  same : read_on (g.R.Reading.take l.reading) g.R.Reading.whole (g.R.Reading.so_far l.reading) l.rows
      ≡ read_on (g.R.Reading.take l.initial.reading) g.R.Reading.whole (g.R.Reading.so_far l.initial.reading) l.initial.rows;
}

abbrev pub decreases-loop-reading : goal.decreases-loop-reading
decreases-loop-reading g l = length (rest_of l.rows)
