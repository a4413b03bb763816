-- What a run comes to.
pub mod Filled
pub mod Fitting
pub mod GivenOnce
pub mod Runs
