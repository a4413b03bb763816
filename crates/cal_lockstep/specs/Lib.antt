pub mod InStep
pub mod Lockstep
pub mod Late
