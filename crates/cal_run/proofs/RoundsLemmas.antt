-- Passes, rounds of the watch, and the rounds of a run on one thread.
pub mod FirstPasses
pub mod Passes
pub mod Rounds
pub mod Watch
