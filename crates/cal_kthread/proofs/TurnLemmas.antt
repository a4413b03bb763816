-- Turns, and their steps.
pub mod Agreeing
pub mod Publishing
pub mod Robbing
pub mod Stepping
pub mod Steps
pub mod Turns
