pub mod RecordedRuns
pub mod MovedArrivals
