-- What the reader of comings keeps.
use Rattle.cal_trace.specs.Comings.{SoFar}
use Rattle.cal_trace.specs.declared.comings.reading.ComingReading.{ComingReading}

-- what the rows so far have given
abbrev pub so_far : ComingReading → SoFar
so_far reading = record {
  requests = reading.requests.items;
  left_out = reading.left_out.items;
  to_come = reading.to_come.now;
}
