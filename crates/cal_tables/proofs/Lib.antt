mod Common
pub mod PassClocks
pub mod Moving
pub mod Verdicts
pub mod Planning
