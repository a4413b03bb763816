-- Requests that fit a table come to its threads.
use Rattle.cal_measure.proofs.Common.{◌<◌, ℕ, length, get_or, slice_get-get_or, Table, threads_of_table}
use Rattle.cal_trace.specs.Arrivals.FitsTable.{FitsTable}
use Rattle.cal_trace.specs.declared.arrivals.Arrival.{Arrival}
use Rattle.cal_trace.specs.declared.arrivals.Arrivals.{Arrivals}

pub given_fit : (table : Table) (arrivals : Arrivals) → FitsTable table arrivals → (k : ℕ) (d : Arrival) → k < length arrivals.requests →
    (get_or arrivals.requests k d).thread < threads_of_table table
given_fit table arrivals fits k d low = (fits.each.at k (get_or arrivals.requests k d) (slice_get-get_or arrivals.requests k d low)).thread
