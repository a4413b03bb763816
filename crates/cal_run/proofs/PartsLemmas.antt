-- The parts of a run.
pub mod Opened
