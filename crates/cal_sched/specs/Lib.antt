pub mod Looking
pub mod Spares
pub mod Watching
pub mod Scheduler
pub mod Passing
pub mod Past
pub mod Finding
pub mod Sending
