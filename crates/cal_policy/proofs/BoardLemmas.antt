-- The board's plain data, and what the actions so far say.
pub mod Agreement
pub mod AsKept
pub mod BannedSet
pub mod BansKept
pub mod CommandNumbers
pub mod DebtsKept
pub mod FitLooks
pub mod OpenCores
pub mod RecentCores
pub mod Replayed
pub mod Sorted
pub mod StateKept
pub mod Surveyed
pub mod TwoSets
pub mod Unshown
