mod Common
pub mod Journals
pub mod Taken
pub mod Freeing
pub mod Passes
pub mod Given
pub mod Helped
