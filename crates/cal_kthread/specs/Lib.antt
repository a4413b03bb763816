pub mod Queue
pub mod Journal
pub mod Limits
pub mod Turn
pub mod End
pub mod Places
pub mod Team
