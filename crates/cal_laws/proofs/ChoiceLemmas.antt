-- What is chosen for a task, in words of its own.
pub mod Chosen
pub mod Classes
pub mod Granted
pub mod Idle
