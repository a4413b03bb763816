-- The most turns of a file, and the most work and misses of a request. The other definitions cite
-- the constants of the code alone. Their numbers are here once: a constant with another number is
-- refused.
use Rattle.std.specs.Prelude.{◌≡◌, ◌-◌, ◌^◌, refl}
use Rattle.cal_trace.specs.declared.arrivals.reading.TheConstants.{MOST_TURNS, MOST_WORK}
use Rattle.cal_trace.specs.declared.arrivals.reading.TheConstants.{MOST_REQUEST_MISSES}

pub most_turns-is : MOST_TURNS ≡ 174762
most_turns-is = refl

pub most_work-is : MOST_WORK ≡ 1000000
most_work-is = refl

pub most_request_misses-is : MOST_REQUEST_MISSES ≡ 2 ^ 32 - 1
most_request_misses-is = refl
