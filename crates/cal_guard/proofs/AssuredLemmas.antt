-- Every pass of the second policy is permitted.
pub mod Between
pub mod Permitting
pub mod Standing
