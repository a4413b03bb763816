pub mod Came
pub mod Windows
pub mod Counting
pub mod Asked
