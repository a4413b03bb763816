pub mod Steps
pub mod Reads
pub mod Linear
pub mod Runs
pub mod Law
pub mod Fronts
