-- What the reader of arrivals keeps, and what it means.
use Rattle.std.specs.Prelude.{◌≤◌}
use Rattle.std.specs.Vec.{vec_len}
use Rattle.cal_trace.specs.Arrivals.{SoFar}
use Rattle.cal_trace.specs.Arrivals.Ids.{AreIdsOf}
use Rattle.cal_trace.specs.declared.arrivals.reading.TheConstants.{MOST_TURNS}
use Rattle.cal_policy.specs.declared.history.entry.TheConstants.{MOST_PASSES}
use Rattle.cal_trace.specs.declared.arrivals.reading.ArrivalReading.{ArrivalReading}

-- what the rows so far have given
abbrev pub so_far : ArrivalReading → SoFar
so_far reading = record {
  passes = reading.passes.items;
  turns = reading.turns.items;
  requests = reading.requests.items;
  ended = reading.ended;
}

-- the ids at hand are those of the requests so far, and there are no more passes and turns than a
-- file may have
pub record KeepsArrivals (reading : ArrivalReading) : Type 0 where
  pub ids : AreIdsOf reading.ids reading.requests.items
  pub few_passes : vec_len reading.passes ≤ MOST_PASSES
  pub few_turns : vec_len reading.turns ≤ MOST_TURNS
