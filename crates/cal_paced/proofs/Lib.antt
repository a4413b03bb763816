mod Common
pub mod Beside
pub mod Cores
pub mod Differing
pub mod Ending
pub mod Evenly
pub mod Leaving
pub mod Ordering
pub mod PaceOne
pub mod Rounding
pub mod Showing
pub mod Turning
